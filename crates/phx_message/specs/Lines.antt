-- Texts that are one line.
use Rattle.std.specs.Prelude.{◌≡◌, ℕ, List, Bool, true, false, not, ◌==◌}
use Rattle.std.specs.List.{list_all}
use Rattle.serde_json.specs.Data.{Data}
use Rattle.serde_json.specs.Written.{has_float, compact_text}
use Rattle.phx_message.specs.Orderly.{IsOrderly}

-- no byte is a line feed
abbrev pub lacks_feed : List ℕ → Bool
lacks_feed = list_all (λ b. not (b == 10))

-- what is written for a value that can be read, floats aside, is one line
abbrev pub TextsAreLines : Type 0
TextsAreLines = (d : Data) → IsOrderly d → has_float d ≡ false → lacks_feed (compact_text d) ≡ true
