-- Rows by dot.
use Rattle.std.specs.Prelude.{◌≡◌, ℕ, List, Option}
use Rattle.serde_json.specs.Data.{Data}
use Rattle.presence_base.specs.declared.dots.Dot.{Dot}
use Rattle.presence_base.specs.declared.row.Row.{Row}
use Rattle.presence_journal.specs.History.{first_some}

abbrev pub row_with : ℕ → List ℕ → List ℕ → Data → Option Dot → Row
row_with pid topic key meta prev = record { topic = topic; key = key; pid = pid; meta = meta; prev = prev }

-- the first of what f and g give
abbrev pub over : (Dot → Option Row) → (Dot → Option Row) → Dot → Option Row
over f g d = first_some (f d) (g d)

-- both give the same
abbrev pub Alike : (Dot → Option Row) → (Dot → Option Row) → Type 0
Alike f g = (d : Dot) → f d ≡ g d
