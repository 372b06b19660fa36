-- Rows by dot and by place: what an entry does to the rows of a topic, and how rows by dot become a table by place.
use Rattle.std.specs.Prelude.{◌≡◌, ℕ, Bool, true, false, cond, List, [], ◌∷◌, Option, Some, None}
use Rattle.std.specs.FinMap as map
use Rattle.std.specs.BTreeMap.{insert_entry}
use Rattle.presence_base.specs.declared.dots.Dot.{Dot}
use Rattle.presence_base.specs.declared.row.Row.{Row}
use Rattle.presence_base.specs.Order.{same_text, same_dot}
use Rattle.presence_journal.specs.declared.step.Step.TheVariants as steps_are
use Rattle.presence_journal.specs.declared.rows.Place.{Place}
use Rattle.presence_journal.specs.History.{History, first_some, has_dot, row_added, shown}
use Rattle.presence_journal.specs.Present.{place_cmp, RowMap, place_of, of_topic, dots_taken}
use Rattle.presence_journal.specs.declared.entry.Outcome.TheVariants as outcomes_are
use Rattle.presence_journal.specs.Steps.{Step, Outcome, Entry}

-- the row of a topic that is added under a dot
abbrev pub joined : Entry → List ℕ → Dot → Option Row
joined e t d = of_topic t (row_added e.step e.outcome d)

-- what stays of the rows that f gives
abbrev pub without_dots : List Dot → (Dot → Option Row) → Dot → Option Row
without_dots ds f d = cond (has_dot ds d) None (f d)

-- what goes of the rows that f gives
abbrev pub among : List Dot → (Dot → Option Row) → Dot → Option Row
among ds f d = cond (has_dot ds d) (f d) None

-- the rows that go with an entry, of those that f gives
abbrev pub leaving : Entry → (Dot → Option Row) → Dot → Option Row
leaving e f = among (dots_taken e.outcome) f

-- the rows of a topic after an entry, where f gives those before it
abbrev pub rows_after : Entry → List ℕ → (Dot → Option Row) → Dot → Option Row
rows_after e t f d = first_some (joined e t d) (without_dots (dots_taken e.outcome) f d)

-- the rows of a topic that are shown
abbrev pub shown_of : History → List ℕ → Dot → Option Row
shown_of h t d = of_topic t (shown h d)

-- what one row under its dot gives
abbrev pub row_at : Option (Dot × Row) → Dot → Option Row
row_at None d = None
row_at (Some x) d = cond (same_dot d x.0) (Some x.1) None

-- the row, where it has this key
abbrev pub keyed : List ℕ → Option Row → Option Row
keyed k None = None
keyed k (Some r) = cond (same_text k r.key) (Some r) None

-- the table by place of the rows that f gives by dot
abbrev pub IsTableOf : (Dot → Option Row) → RowMap → Type 0
IsTableOf f m = (p : Place) → map.get m p ≡ keyed p.key (f p.dot)

-- rows put to their places, one after another
abbrev pub placed : List (Place × Row) → List (Dot × Row) → List (Place × Row)
placed es [] = es
placed es (x ∷ xs) = placed (insert_entry place_cmp es (place_of x.0 x.1) x.1) xs

-- the step is a rebirth
abbrev pub is_rebirth : Step → Bool
is_rebirth (steps_are.Rebirth incarnation) = true
is_rebirth _ = false

-- the outcome tells rows that go on under new dots
abbrev pub is_reborn : Outcome → Bool
is_reborn (outcomes_are.Reborn pairs) = true
is_reborn _ = false

-- its pairs of a new and an old dot
abbrev pub pairs_in : Outcome → List (Dot × Dot)
pairs_in (outcomes_are.Reborn pairs) = pairs
pairs_in _ = []

-- the step tells of other replicas
abbrev pub tells : Step → Bool
tells (steps_are.Merge told) = true
tells _ = false
