-- What the program notes of a row that came or went.
use Rattle.std.specs.Prelude.{ℕ, List, ◌∷◌, ◌++◌, codes}
use Rattle.presence_base.specs.declared.dots.Dot.{Dot}
use Rattle.presence_base.specs.Refs.{ref_of}

-- a word, and the reference text of the row's dot
abbrev pub note : List ℕ → Dot → List ℕ
note word dot = word ++ 32 ∷ ref_of dot

abbrev pub join_note : Dot → List ℕ
join_note dot = note (codes "join") dot

abbrev pub leave_note : Dot → List ℕ
leave_note dot = note (codes "leave") dot
