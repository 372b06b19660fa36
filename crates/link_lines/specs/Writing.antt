-- The text that a line is written as.
use Rattle.std.specs.Prelude.{ℕ, List, length, nat_lt, if◌then◌else◌, Result, Ok, Err}
use Rattle.serde_json.specs.Written.{compact_text}
use Rattle.link_lines.specs.declared.lines.Line.{Line}
use Rattle.link_lines.specs.declared.fault.LinkFault.{LinkFault}
use Rattle.link_lines.specs.declared.fault.LinkFault.TheVariants.{LineTooLong}
use Rattle.link_lines.specs.declared.lines.TheConstants.{MAX_LINE_BYTES}
use Rattle.link_lines.specs.Values.{value_of}

-- its array without spaces
abbrev pub text_of : Line → List ℕ
text_of line = compact_text (value_of line)

-- the text, where it isn't too long
abbrev pub encoded : Line → Result (List ℕ) LinkFault
encoded line = if nat_lt MAX_LINE_BYTES (length (text_of line)) then Err LineTooLong else Ok (text_of line)
