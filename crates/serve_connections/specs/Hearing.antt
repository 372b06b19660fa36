-- What one read of a connection gave.
use Rattle.std.specs.Prelude.{◌≡◌, ℕ, List, Bool, true, false, if◌then◌else◌, Option, Result, Ok, Err}
use Rattle.serve_sockets.specs.Passing.{is_passing}
use Rattle.tungstenite.specs.Socket.{Socket, Reads, content_of}
use Rattle.tungstenite.specs.declared.error.Error.{Error}
use Rattle.tungstenite.specs.declared.message.Message.{Message}
use Rattle.websocket.specs.Content.{Content, text, binary, ping, pong, close}
use Rattle.serve_connections.specs.Causes.{cause_of}
use Rattle.serve_connections.specs.declared.cause.Cause.TheVariants.{Closed, Binary}
use Rattle.serve_connections.specs.declared.hearing.Heard.{Heard}
use Rattle.serve_connections.specs.declared.hearing.Heard.TheVariants.{Text, Sign, Nothing, Ends}

abbrev pub heard_in : Content → Heard
heard_in (text words) = Text words
heard_in (binary bytes) = Ends Binary
heard_in (ping bytes) = Sign
heard_in (pong bytes) = Sign
heard_in (close frame) = Ends Closed

-- A read that would block or was interrupted has found nothing, and any other error ends the connection for its cause.
abbrev pub heard_of_error : Error → Heard
heard_of_error e = if is_passing e then Nothing else Ends (cause_of e)

abbrev pub heard_of : Result Message Error → Heard
heard_of (Ok message) = heard_in (content_of message)
heard_of (Err e) = heard_of_error e

-- A read of the socket gave this.
pub record Hears {S : Type 0} (remaining : S → Option (List ℕ)) (old new : Socket S) (heard : Heard) : Type 0 where
  pub read : Result Message Error
  pub reads : Reads remaining old new read
  pub tells : heard ≡ heard_of read

-- whether it is a message that the connection lives by
abbrev pub is_message : Heard → Bool
is_message (Text words) = true
is_message Sign = true
is_message Nothing = false
is_message (Ends cause) = false
