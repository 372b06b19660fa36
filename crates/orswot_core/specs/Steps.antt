-- What the steps on covered dots and live rows leave, and which dots they gather.
use Rattle.std.specs.Prelude.{◌≡◌, Bool, true, false, cond, not, is_some, ◌&&◌, ◌||◌, List, Option, None}
use Rattle.std.specs.List.{list_any}
use Rattle.std.specs.Map.{lookup}
use Rattle.std.specs.FinSet as set
use Rattle.std.specs.BTreeMap.{get}
use Rattle.presence_base.specs.declared.dots.Dot.{Dot}
use Rattle.presence_base.specs.declared.row.Row.{Row}
use Rattle.presence_base.specs.Order.{dot_cmp, same_dot}
use Rattle.dot_context.specs.Sets.{DotSet}
use Rattle.orswot_core.specs.Sets.{Rows, joined_row, first_row, is_left, is_missing}

-- n has what m has, but `row` at the dot
abbrev pub ChangesRow : Rows → Rows → Dot → Option Row → Type 0
ChangesRow m n d row = (q : Dot) → get dot_cmp n q ≡ cond (same_dot d q) row (get dot_cmp m q)

abbrev pub SameRows : Rows → Rows → Type 0
SameRows m n = (q : Dot) → get dot_cmp n q ≡ get dot_cmp m q

-- n has the rows of m whose dots pass the test
abbrev pub KeepsRows : Rows → Rows → (Dot → Bool) → Type 0
KeepsRows m n test = (q : Dot) → get dot_cmp n q ≡ cond (test q) (get dot_cmp m q) None

-- n has the rows of m without those of the dots
abbrev pub DropsRows : Rows → Rows → List Dot → Type 0
DropsRows m n ds = (q : Dot) → get dot_cmp n q ≡ cond (list_any (same_dot q) ds) None (get dot_cmp m q)

-- n has the rows of m, and these at the dots where m has none
abbrev pub KeepsFirst : Rows → Rows → (Dot → Option Row) → Type 0
KeepsFirst m n row = (q : Dot) → get dot_cmp n q ≡ first_row (get dot_cmp m q) (row q)

-- n has the others' rows where the dot is not covered and has none in m
abbrev pub TakesMissing : DotSet → Rows → Rows → Rows → Type 0
TakesMissing s others m n = (q : Dot) → set.contains s q ≡ false → get dot_cmp m q ≡ None
    → get dot_cmp n q ≡ get dot_cmp others q

-- and changes no other row
abbrev pub KeepsCovered : DotSet → Rows → Rows → Rows → Type 0
KeepsCovered s others m n = (q : Dot) → is_missing (set.contains s q) (get dot_cmp others q) ≡ false
    → get dot_cmp n q ≡ get dot_cmp m q

-- t and n are what a join leaves of the dots s and the rows m, with heard dots and their rows
abbrev pub Joins : DotSet → DotSet → Rows → Rows → DotSet → Rows → Type 0
Joins s t m n heard rows =
    (t ≡ set.union s heard)
    × ((q : Dot)
    → get dot_cmp n q ≡ joined_row (get dot_cmp m q) (set.contains s q) (get dot_cmp rows q) (set.contains heard q))

-- only covered dots have rows
abbrev pub AreCovered : DotSet → Rows → Type 0
AreCovered s m = (q : Dot) → is_some (get dot_cmp m q) ≡ true → set.contains s q ≡ true

-- t covers the dots of s, the event and the dots
abbrev pub CoversAll : DotSet → DotSet → Dot → List Dot → Type 0
CoversAll s t event ds = (q : Dot)
    → set.contains t q ≡ (same_dot q event || (set.contains s q || list_any (same_dot q) ds))

-- and the rows of the dots are taken out of m
abbrev pub Removes : DotSet → Rows → List Dot → Dot → DotSet → Rows → Type 0
Removes s m ds event t n =
    (q : Dot) → (set.contains t q ≡ (same_dot q event || (set.contains s q || list_any (same_dot q) ds)))
    × (get dot_cmp n q ≡ cond (list_any (same_dot q) ds) None (get dot_cmp m q))

abbrev pub lacks : DotSet → Dot → Bool
lacks s q = not (set.contains s q)

-- a told row's dot that is not covered
abbrev pub is_missing_of : DotSet → List (Dot × Row) → Dot → Bool
is_missing_of s rows q = is_missing (set.contains s q) (lookup (same_dot q) rows)

-- the dots at which a row is live here and not there
abbrev pub left_at : Rows → Rows → Dot → Bool
left_at here there q = is_left (get dot_cmp here q) (get dot_cmp there q)

-- a list of the dots that pass the test; one of those of another list, and of these
abbrev pub Lists : List Dot → (Dot → Bool) → Type 0
Lists ds test = (q : Dot) → list_any (same_dot q) ds ≡ test q

abbrev pub Gathers : List Dot → List Dot → (Dot → Bool) → Type 0
Gathers old new test = Lists new (λ q. list_any (same_dot q) old || test q)

-- of the dots that pass the test those at which a row is live here and not there come to the others
abbrev pub GathersLeft : Rows → Rows → List Dot → List Dot → (Dot → Bool) → Type 0
GathersLeft here there old new test = Gathers old new (λ q. left_at here there q && test q)
