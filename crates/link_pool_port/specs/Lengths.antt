-- In how many bytes what is told is written on a line.
use Rattle.std.specs.Prelude.{ℕ, ◌+◌, ◌-◌, ◌^◌, min, List, [], ◌∷◌, length}
use Rattle.serde_json.specs.Data.{Data}
use Rattle.serde_json.specs.Written.{compact_text}

-- a count of so many bytes: a machine's number, which is the largest where there are more
abbrev pub counted : ℕ → ℕ
counted n = min n (2 ^ 64 - 1)

-- the bytes of a value, and of so many values with one byte behind each: a comma or the end of their list
abbrev pub size_of : Data → ℕ
size_of d = length (compact_text d)

abbrev pub sizes : List Data → ℕ
sizes [] = 0
sizes (d ∷ ds) = size_of d + 1 + sizes ds
