-- Which failures of a stream pass.
use Rattle.std.specs.Prelude.{Bool, true, false}
use Rattle.std.specs.IoError.{error_kind}
use Rattle.std.specs.declared.io.ErrorKind.{ErrorKind}
use Rattle.std.specs.declared.io.ErrorKind.TheVariants.{WouldBlock, Interrupted}
use Rattle.tungstenite.specs.declared.error.Error.{Error}
use Rattle.tungstenite.specs.declared.error.Error.TheVariants as errors

-- the stream has nothing, or no room, for now; or the call was interrupted
abbrev pub passes : ErrorKind → Bool
passes WouldBlock = true
passes Interrupted = true
passes _ = false

-- The call is made once more later. Behind any other error the connection can't go on.
abbrev pub is_passing : Error → Bool
is_passing (errors.Io cause) = passes (error_kind cause)
is_passing _ = false
