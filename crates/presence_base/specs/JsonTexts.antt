-- The value that a text is, and which texts are the compact text of their values.
use Rattle.std.specs.Prelude.{◌≡◌, ℕ, List, Some, unwrap_or}
use Rattle.serde_json.specs.Data.{Data, null}
use Rattle.serde_json.specs.Read.{read}
use Rattle.serde_json.specs.Written.{compact_text}

-- the value that a text reads as, or null
unfoldable pub value_in : List ℕ → Data
value_in text = unwrap_or (read text) null

-- a text that is read, and is what is written for the value
abbrev pub IsCompact : List ℕ → Type 0
IsCompact text = (read text ≡ Some (value_in text)) × (compact_text (value_in text) ≡ text)
