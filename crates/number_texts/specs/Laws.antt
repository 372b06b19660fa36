-- The laws of marked texts.
use Rattle.std.specs.Prelude.{◌≡◌, ℕ, List, true}
use Rattle.number_texts.specs.Pieces.{Piece, quoted, run, colon_first}
use Rattle.number_texts.specs.Written.{IsJsonText}
use Rattle.number_texts.specs.Marks.{marked, unmarked, map_named, marked_text, unmarked_text, needs_no_marks, has_no_marks}

abbrev pub MarksComeOff : Type 0
MarksComeOff = (s : List ℕ) → unmarked_text (marked_text s) ≡ s

abbrev pub MarkedStay : Type 0
MarkedStay = (s : List ℕ) → needs_no_marks s ≡ true → marked_text s ≡ s

abbrev pub UnmarkedStay : Type 0
UnmarkedStay = (s : List ℕ) → has_no_marks s ≡ true → unmarked_text s ≡ s

-- The names of an object's members stay names: a number that stands as one is not marked, a quoted one goes out as a quoted
-- text, whatever it is, and a piece is a name as it goes out just where it is one as it was written.
pub record NamesStay : Type 0 where
  pub heard : (r : List ℕ) → marked true (run r) ≡ run r
  pub told : (t : List ℕ) → (u : List ℕ) × (unmarked true (quoted t) ≡ quoted u)
  pub kept : (ps : List Piece) → colon_first (map_named unmarked ps) ≡ colon_first ps

-- What is written as JSON, with no white space, goes out as JSON.
abbrev pub ToldIsJson : Type 0
ToldIsJson = (s : List ℕ) → IsJsonText s → IsJsonText (unmarked_text s)
