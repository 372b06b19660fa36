-- The laws of messages, which the functions of `laws` state.
use Rattle.std.specs.Prelude.{◌≡◌, ◌≤◌, ℕ, List, length, Ok}
use Rattle.serde_json.specs.Written.{compact_text}
use Rattle.phx_message.specs.Message.{value_of, IsWithin}
use Rattle.phx_message.specs.Orderly.{IsOrderly}
use Rattle.phx_message.specs.Reading.{decoded}
use Rattle.phx_message.specs.declared.message.Message.{Message}
use Rattle.phx_message.specs.declared.message.Limits.{Limits}
use Rattle.phx_message.specs.declared.message.TheConstants.Limits as the_limits

-- what a text is decoded to is within the limits, and as a value that was read
abbrev pub DecodedIsOrderly : Type 0
DecodedIsOrderly = (limits : Limits) (s : List ℕ) (m : Message) → decoded limits s ≡ Ok m → IsWithin limits.depth m
    × IsOrderly (value_of m)

-- such a message, within the limits of a frame, is what its text is decoded to
abbrev pub ReadsBack : Type 0
ReadsBack = (m : Message) → IsWithin the_limits.FRAME.depth m → IsOrderly (value_of m)
    → length (compact_text (value_of m)) ≤ the_limits.FRAME.bytes
    → decoded the_limits.FRAME (compact_text (value_of m)) ≡ Ok m

-- what a client may send, and what it reads: bytes of a text, and levels of a payload
abbrev pub LimitsAreThese : Type 0
LimitsAreThese = (the_limits.CLIENT ≡ record { bytes = 65536; depth = 64 })
    × (the_limits.FRAME ≡ record { bytes = 16777216; depth = 96 })
