-- The rows that are present on a topic, in order of key and dot, and how two such tables differ.
use Rattle.std.specs.Prelude.{ℕ, cond, not, List, [], ◌∷◌, ◌++◌, map as each, Option, Some, None}
use Rattle.std.specs.declared.cmp.Ordering.{Ordering}
use Rattle.std.specs.Ordering.{on, then_cmp}
use Rattle.std.specs.FinMap as map
use Rattle.presence_base.specs.declared.dots.Dot.{Dot}
use Rattle.presence_base.specs.declared.row.Row.{Row}
use Rattle.presence_base.specs.Order.{text_cmp, dot_cmp, same_text}
use Rattle.presence_journal.specs.declared.entry.Outcome.TheVariants as outcomes_are
use Rattle.presence_journal.specs.declared.rows.Place.{Place}
use Rattle.presence_journal.specs.declared.rows.RowDiff.{RowDiff}
use Rattle.presence_journal.specs.declared.step.Step.TheVariants as steps_are
use Rattle.presence_journal.specs.Steps.{Step, Outcome}
use Rattle.presence_journal.specs.History.{History, Begin, Then, shown}

abbrev pub place_cmp : Place → Place → Ordering
place_cmp = then_cmp (on (λ p. p.key) text_cmp) (on (λ p. p.dot) dot_cmp)

-- rows by key and dot
abbrev pub RowMap : Type 0
RowMap = map.FinMap place_cmp Row

abbrev pub place_of : Dot → Row → Place
place_of d r = record { key = r.key; dot = d }

abbrev pub of_topic : List ℕ → Option Row → Option Row
of_topic t None = None
of_topic t (Some r) = cond (same_text r.topic t) (Some r) None

-- the dot that an entry adds
abbrev pub dots_added : Outcome → List Dot
dots_added (outcomes_are.Added d) = d ∷ []
dots_added (outcomes_are.Replaced d old) = d ∷ []
dots_added outcomes_are.AlreadyTracked = []
dots_added outcomes_are.NoPresence = []
dots_added (outcomes_are.Removed ds) = []
dots_added (outcomes_are.Shown ds) = []
dots_added (outcomes_are.Subscribed n) = []
dots_added (outcomes_are.Taken state items) = []
dots_added outcomes_are.Ended = []
dots_added outcomes_are.Sent = []
dots_added outcomes_are.Noted = []
dots_added (outcomes_are.CutAt from to) = []
dots_added outcomes_are.Merged = []
dots_added (outcomes_are.Reborn pairs) = each (λ p. p.0) pairs

-- the dots that an outcome names as taken out
abbrev pub dots_taken : Outcome → List Dot
dots_taken (outcomes_are.Replaced new old) = old ∷ []
dots_taken (outcomes_are.Removed ds) = ds
dots_taken _ = []

abbrev pub dots_of : List (Dot × Row) → List Dot
dots_of = each (λ x. x.0)

-- the dots of the rows that a step tells
abbrev pub dots_told : Step → List Dot
dots_told (steps_are.Merge t) = dots_of t.live
dots_told _ = []

-- every dot that was ever added or told with a row, or has one in the Start
unfoldable pub dots : History → List Dot
dots (Begin s) = dots_of s.content.live
dots (Then h e) = dots_added e.outcome ++ (dots_told e.step ++ dots h)

abbrev pub put : Dot → Option Row → RowMap → RowMap
put d None m = m
put d (Some r) m = map.insert m (place_of d r) r

-- what f says of these dots
abbrev pub put_all : (Dot → Option Row) → List Dot → RowMap
put_all f [] = map.empty
put_all f (d ∷ ds) = put d (f d) (put_all f ds)

-- the rows of a topic that are shown, among all that was ever added
unfoldable pub present : History → List ℕ → RowMap
present h t = put_all (λ d. of_topic t (shown h d)) (dots h)

-- in order of key and then dot
unfoldable pub in_order : RowMap → List (Dot × Row)
in_order m = each (λ e. (e.0.dot, e.1)) (map.entries m)

-- the rows of a topic that are present, in order
abbrev pub listed : History → List ℕ → List (Dot × Row)
listed h t = in_order (present h t)

-- the rows of the one table that the other has not
abbrev pub missing_in : RowMap → RowMap → RowMap
missing_in others m = map.retain_keys m (λ p. not (map.contains_key others p))

-- what joined between two tables, and what left
unfoldable pub changes : RowMap → RowMap → RowDiff
changes old new = record { joins = in_order (missing_in old new); leaves = in_order (missing_in new old) }
