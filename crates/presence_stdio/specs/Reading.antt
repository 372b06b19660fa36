-- Which message a line is.
use Rattle.std.specs.Prelude.{ℕ, List, length, nat_lt, if◌then◌else◌, Option, Some, None, Result, Err}
use Rattle.std.specs.Str.{is_utf8}
use Rattle.phx_message.specs.declared.message.Limits.{Limits}
use Rattle.phx_message.specs.declared.message.Message.{Message}
use Rattle.phx_message.specs.declared.message.MessageFault.{MessageFault}
use Rattle.phx_message.specs.declared.message.MessageFault.TheVariants.{TooLong, NotJson}
use Rattle.phx_message.specs.declared.message.TheConstants.Limits as the_limits
use Rattle.phx_message.specs.Reading.{decoded}

-- A line of more bytes than allowed is too long whatever its bytes, and one that is no UTF-8 is no JSON.
unfoldable pub message_in : Limits → List ℕ → Result Message MessageFault
message_in limits line =
    if nat_lt limits.bytes (length line) then Err TooLong else
    (if is_utf8 line then decoded limits line else Err NotJson)

-- what is wrong with a line before its text is read
abbrev pub bytes_fault : Limits → List ℕ → Option MessageFault
bytes_fault limits line =
    if nat_lt limits.bytes (length line) then Some TooLong else (if is_utf8 line then None else Some NotJson)

-- the most bytes of a client's line, and of a line with a frame
abbrev pub line_limit : ℕ
line_limit = the_limits.CLIENT.bytes

abbrev pub frame_limit : ℕ
frame_limit = the_limits.FRAME.bytes

-- the message of a client's line
abbrev pub line_message : List ℕ → Result Message MessageFault
line_message line = message_in the_limits.CLIENT line

-- the message of a line with a frame
abbrev pub frame_message : List ℕ → Result Message MessageFault
frame_message line = message_in the_limits.FRAME line
