-- Which numbers are marked: those of JSON that aren't read as whole numbers of 64 bits.
use Rattle.std.specs.Prelude.{ℕ, ◌&&◌, not, Bool, true, false, List, [], ◌∷◌, Option, Some, None}
use Rattle.json.specs.Word.{after_number}
use Rattle.serde_json.specs.Data.{Num, unsigned, negative, float}
use Rattle.serde_json.specs.Read.{number_of}

abbrev pub ends_there : Option (List ℕ) → Bool
ends_there None = false
ends_there (Some []) = true
ends_there (Some (b ∷ bs)) = false

-- the whole text is a number of RFC 8259
abbrev pub is_number : List ℕ → Bool
is_number t = ends_there (after_number t)

abbrev pub is_whole_num : Num → Bool
is_whole_num (unsigned n) = true
is_whole_num (negative n) = true
is_whole_num (float x) = false

abbrev pub is_whole : Option Num → Bool
is_whole None = false
is_whole (Some n) = is_whole_num n

unfoldable pub is_marked_number : List ℕ → Bool
is_marked_number t = is_number t && not (is_whole (number_of t))
