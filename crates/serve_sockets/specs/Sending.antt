-- What sending texts does to a socket.
use Rattle.std.specs.Prelude.{◌≡◌, ◌⊎◌, ℕ, List, [], ◌∷◌, ◌++◌, Option, Some, length}
use Rattle.std.specs.Io.KnownBytes.{Appends}
use Rattle.tungstenite.specs.Failure.{IsIo, WriteFails}
use Rattle.tungstenite.specs.Socket.{Socket}
use Rattle.tungstenite.specs.declared.error.Error.{Error}
use Rattle.tungstenite.specs.declared.error.Error.TheVariants as errors
use Rattle.serve_sockets.specs.Kept.{HasNoRoom}
use Rattle.websocket.specs.Connection.{Outgoing, Sends, write_step}
use Rattle.websocket.specs.Content.{text}
use Rattle.websocket.specs.declared.protocol.config.Role.{Role}
use Rattle.websocket.specs.declared.protocol.frame.coding.Data.TheVariants as kinds
use Rattle.websocket.specs.declared.protocol.frame.coding.OpCode.TheVariants as opcodes

-- the frame of a text, before it is masked
abbrev pub text_frame : List ℕ → Outgoing
text_frame words = record { opcode = opcodes.Data kinds.Text; payload = words }

-- these bytes gained the frames of the texts, in their order
abbrev pub Gains : Role → List (List ℕ) → List ℕ → List ℕ → Type 0
Gains role [] old new = new ≡ old
Gains role (words ∷ rest) old new =
    (mid : List ℕ) × Sends role (Some (text_frame words)) old mid × Gains role rest mid new

-- want of memory, or of room for what waits
abbrev pub IsWant : Error → Type 0
IsWant e = (e ≡ errors.OutOfMemory) ⊎ (e ≡ errors.WriteBufferFull)

module _ {S : Type 0} (contents : S → Option (List ℕ)) where
  -- What the stream got, with what still waits to be sent, grew by exactly the frames of the texts.
  pub record SentAll (old new : Socket S) (texts : List (List ℕ)) : Type 0 where
    pub sent : List ℕ
    pub frames : Gains old.conn.role texts old.output (sent ++ new.output)
    pub stream : Appends (contents old.stream) (contents new.stream) sent
    pub conn : new.conn ≡ old.conn
    pub input : new.input ≡ old.input

  -- One of the texts could not be written, and those behind it were not tried. Its own frame was
  -- taken where the stream failed, and not for want of memory or room. Room is wanting only where
  -- more would have waited than may.
  pub record Stops (old new : Socket S) (texts : List (List ℕ)) (e : Error) : Type 0 where
    pub front : List (List ℕ)
    pub words : List ℕ
    pub rest : List (List ℕ)
    pub texts_are : texts ≡ front ++ words ∷ rest
    pub fails : WriteFails (write_step old.conn (text words)) e
    pub taken : IsIo e → SentAll old new (front ++ words ∷ [])
    pub kept : IsWant e → SentAll old new front
    pub full : e ≡ errors.WriteBufferFull → HasNoRoom new.output (length words)
