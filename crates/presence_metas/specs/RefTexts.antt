-- The references of a row in the text of its meta, whose members are written in order of their names.
use Rattle.std.specs.Prelude.{ℕ, List, [], ◌∷◌, ◌++◌, if◌then◌else◌, Option, Some, None, codes}
use Rattle.std.specs.Str.{bytes_eq}
use Rattle.json.specs.Print.{quoted}
use Rattle.presence_base.specs.Refs.{ref_of}
use Rattle.presence_base.specs.declared.dots.Dot.{Dot}

abbrev pub prev_text : Option Dot → List ℕ
prev_text None = []
prev_text (Some d) = codes ",\"phx_ref_prev\":" ++ quoted (ref_of d)

-- the members that name the references
unfoldable pub refs_text : Dot → Option Dot → List ℕ
refs_text d prev = codes "\"phx_ref\":" ++ (quoted (ref_of d) ++ prev_text prev)

-- behind an opening bracket, and ahead of the members that end in s
abbrev pub refs_first : Dot → Option Dot → List ℕ → List ℕ
refs_first d prev s = 123 ∷ (refs_text d prev ++ (if bytes_eq s (codes "}") then s else (44 ∷ s)))

-- behind members
abbrev pub refs_behind : Dot → Option Dot → List ℕ → List ℕ
refs_behind d prev s = s ++ 44 ∷ refs_text d prev
