-- The rows of each connection, and how they change.
use Rattle.std.specs.Prelude.{◌≡◌, ◌-◌, ℕ, List, [], take, length, Bool, if◌then◌else◌, Option, None, Some}
use Rattle.std.specs.BTreeMap.{get}
use Rattle.std.specs.Ordering.{nat_cmp, eq_by_cmp}
use Rattle.serve_rations.specs.declared.ration.Kept.{Kept}
use Rattle.serve_rations.specs.declared.ration.Ration.{Ration}
use Rattle.serve_rations.specs.declared.rations.Rations.{Rations}

abbrev pub kept_in : Option Ration → List Kept
kept_in None = []
kept_in (Some ration) = ration.rows.items

-- the rows that count for a connection
abbrev pub rows_of : Rations → ℕ → List Kept
rows_of rations pid = kept_in (get nat_cmp rations.connections pid)

abbrev pub same_number : ℕ → ℕ → Bool
same_number = eq_by_cmp nat_cmp

-- the row of this key at this topic, with so many bytes
abbrev pub kept : List ℕ → List ℕ → ℕ → Kept
kept topic key bytes = record { topic = topic; key = key; bytes = bytes }

abbrev pub all_but_last : List Kept → List Kept
all_but_last rows = take (length rows - 1) rows

-- This connection has these rows, and each other what it had.
abbrev pub IsNow : Rations → ℕ → List Kept → Rations → Type 0
IsNow old pid rows new = (p : ℕ) → rows_of new p ≡ (if same_number pid p then rows else rows_of old p)

-- Each connection has what it had.
abbrev pub SameRows : Rations → Rations → Type 0
SameRows old new = (p : ℕ) → rows_of new p ≡ rows_of old p
