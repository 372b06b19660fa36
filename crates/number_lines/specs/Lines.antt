-- What lines become that are read and written. Bytes that are no text stay as they are.
use Rattle.std.specs.Prelude.{◌≡◌, ◌++◌, ◌∷◌, ℕ, List, [], Option}
use Rattle.std.specs.Io.KnownBytes.{Appends}
use Rattle.std.specs.Str.{IsUtf8}
use Rattle.number_texts.specs.Marks.{marked_text, unmarked_text}

-- as what a line is read, with its line feed
pub record IsMarkedLine (line given : List ℕ) : Type 0 where
  pub text : IsUtf8 line → given ≡ marked_text line ++ 10 ∷ []
  pub bytes : (IsUtf8 line → ⊥) → given ≡ line ++ 10 ∷ []

-- as what a line is written, by what the writer holds
pub record WritesUnmarked (line : List ℕ) (old new : Option (List ℕ)) : Type 0 where
  pub text : IsUtf8 line → Appends old new (unmarked_text line)
  pub bytes : (IsUtf8 line → ⊥) → Appends old new line
