-- Which rows are picked, and what a turn takes from a told value.
use Rattle.std.specs.Prelude.{◌≡◌, ℕ, Bool, cond, not, ◌&&◌, List, [], ◌∷◌, Option, Some, None, is_some}
use Rattle.std.specs.FinSet as set
use Rattle.std.specs.FinMap as map
use Rattle.std.specs.BTreeMap.{get}
use Rattle.std.specs.BTreeSet.{BTreeSet, contains}
use Rattle.presence_base.specs.declared.dots.Replica.{Replica}
use Rattle.presence_base.specs.declared.dots.Dot.{Dot}
use Rattle.presence_base.specs.declared.row.Row.{Row}
use Rattle.presence_base.specs.Order.{dot_cmp, same_dot, same_replica}
use Rattle.orswot_core.specs.Telling.{Range, ToldValue, range_has, lies_in, is_among, covers, live_row}
use Rattle.orswot_core.specs.Sets.{Rows, LiveRows, DotRows, first_row}
use Rattle.replica_status.specs.declared.standing.Standing.{Standing}
use Rattle.replica_status.specs.Boards.{standing_in}
use Rattle.replica_status.specs.Table.{status_of, ticked_at}
use Rattle.presence_journal.specs.declared.step.Step.{Step}
use Rattle.presence_journal.specs.History.{is_up, row_made}
use Rattle.tracker_known.specs.declared.others.Others.{Others}
use Rattle.tracker_known.specs.Standings.{status_at}
use Rattle.tracker_shown.specs.Turns.{IsListOf}

-- of the dots that pass the test n has the rows of the source, and else those of m
abbrev pub Gathers : LiveRows → (Dot → Bool) → Rows → Rows → Type 0
Gathers source test m n = (d : Dot)
    → get dot_cmp n d ≡ first_row (cond (test d) (map.get source d) None) (get dot_cmp m d)

-- n has the row for the dot, and else those of m
abbrev pub PutsRow : Rows → Rows → Dot → Row → Type 0
PutsRow m n d r = (q : Dot) → get dot_cmp n q ≡ cond (same_dot d q) (Some r) (get dot_cmp m q)

-- the rows of the source whose dots pass the test
abbrev pub picked : LiveRows → (Dot → Bool) → Dot → Option Row
picked source test d = cond (test d) (map.get source d) None

-- the list has the rows of the source whose dots pass the test, each once
abbrev pub IsPick : LiveRows → (Dot → Bool) → List (Dot × Row) → Type 0
IsPick source test xs = IsListOf (picked source test) xs

-- the dots of a replica
abbrev pub of_replica : Replica → Dot → Bool
of_replica r d = same_replica d.replica r

-- the same, or none
abbrev pub of_replica_if : Replica → Bool → Dot → Bool
of_replica_if r b d = same_replica d.replica r && b

-- time hides the rows of a replica of this standing
abbrev pub drops : ℕ → Standing → Bool
drops time x = is_up (status_of x) && not (is_up (status_of (ticked_at time x)))

-- time hides the rows of the dot's replica
abbrev pub of_dropped : ℕ → List (Replica × Standing) → Dot → Bool
of_dropped time xs d = drops time (standing_in xs d.replica)

-- rows that are told of the replica are shown: it is another than the own one, and up
abbrev pub shows_told : Others → Replica → Bool
shows_told o r = not (same_replica r o.own) && is_up (status_at o r)

-- a told row of the dot is new, and shown
abbrev pub is_new : DotRows → Others → Dot → Bool
is_new s o d = shows_told o d.replica && not (set.contains s.covered d)

-- the told row of the dot, where it is new and shown
abbrev pub row_told : DotRows → Others → ToldValue → Dot → Option Row
row_told s o t d = cond (is_new s o d) (live_row t d) None

-- what is told takes the row of the dot out, which was shown
abbrev pub is_out : Others → ToldValue → Dot → Bool
is_out o t d = shows_told o d.replica && (covers t d && not (is_some (live_row t d)))

-- the dot lies in the range, and is not told live
abbrev pub out_of : BTreeSet Dot → Range → Dot → Bool
out_of told g q = range_has q g && not (contains dot_cmp told q)

-- the dot is this one, and is not told live
abbrev pub one_untold : BTreeSet Dot → Dot → Dot → Bool
one_untold told d q = same_dot q d && not (contains dot_cmp told q)

-- the dot lies in the range, and is not told live, and its row was shown
abbrev pub shown_out_of : Others → BTreeSet Dot → Range → Dot → Bool
shown_out_of o told g q = shows_told o q.replica && out_of told g q

-- the dot is this one, and is not told live, and its row was shown
abbrev pub one_extra_out : Others → BTreeSet Dot → Dot → Dot → Bool
one_extra_out o told d q = shows_told o q.replica && (same_dot q d && not (contains dot_cmp told q))

-- the ranges, and the extras, take the row of the dot out, which was shown
abbrev pub out_ranges : Others → BTreeSet Dot → List Range → Dot → Bool
out_ranges o told gs q = shows_told o q.replica && (lies_in gs q && not (contains dot_cmp told q))

abbrev pub out_extras : Others → BTreeSet Dot → List Dot → Dot → Bool
out_extras o told ds q = shows_told o q.replica && (is_among ds q && not (contains dot_cmp told q))

-- the row that a step makes under a dot, as a list
abbrev pub one_row : Dot → Option Row → List (Dot × Row)
one_row d None = []
one_row d (Some r) = (d, r) ∷ []

abbrev pub made_rows : Step → Option Dot → Dot → List (Dot × Row)
made_rows s prev d = one_row d (row_made s prev)
