-- What entries make of the set of covered dots and live rows.
use Rattle.std.specs.Prelude.{◌≡◌, ℕ, Bool, true, cond, not, ◌&&◌, List, [], ◌∷◌, length, Option, None}
use Rattle.std.specs.FinSet as set
use Rattle.std.specs.FinMap as map
use Rattle.presence_base.specs.declared.dots.Replica.{Replica}
use Rattle.presence_base.specs.declared.dots.Dot.{Dot}
use Rattle.presence_base.specs.declared.row.Row.{Row}
use Rattle.presence_base.specs.Order.{same_replica}
use Rattle.orswot_core.specs.Telling.{ToldValue}
use Rattle.orswot_core.specs.Sets.{DotRows}
use Rattle.replica_status.specs.declared.standing.Standing.{Standing}
use Rattle.replica_status.specs.Table.{status_of, ticked_at}
use Rattle.presence_journal.specs.declared.step.Step.TheVariants as steps_are
use Rattle.presence_journal.specs.declared.entry.Entry.{Entry}
use Rattle.presence_journal.specs.History.{History, Then, own, next_dot, is_gone}
use Rattle.presence_journal.specs.Table.{IsLegal}
use Rattle.presence_journal.specs.Walk.{is_rebirth, pairs_in}
use Rattle.presence_journal_known.specs.LeftOut.{HoldsCovered}
use Rattle.tracker_known.specs.Again.{rows_again}
use Rattle.tracker_known.specs.declared.others.Others.{Others}
use Rattle.tracker_known.specs.Standings.{AreOthersOf}

-- the entry can follow a legal history whose set this is, and whose next dot
pub record CanTake (next : Dot) (s : DotRows) (e : Entry) : Type 0 where
  pub before : History
  pub legal : IsLegal (Then before e)
  pub holds : HoldsCovered before s
  pub counts : next ≡ next_dot before

-- the set after the entry, where s was the set before it
abbrev pub Takes : Dot → DotRows → Entry → DotRows → Type 0
Takes next s e u = (h : History) → IsLegal (Then h e) → next ≡ next_dot h → HoldsCovered h s → HoldsCovered (Then h e) u

-- the set after an entry that merges this
abbrev pub TakesMerge : DotRows → Others → ToldValue → DotRows → Type 0
TakesMerge s o t u = (h : History) (e : Entry) → IsLegal (Then h e) → e.step ≡ steps_are.Merge t → AreOthersOf h o
    → HoldsCovered h s → HoldsCovered (Then h e) u

-- what is told of an update: both dots are covered, and the row is under the new one
abbrev pub told_swap : Dot → Dot → Row → ToldValue
told_swap new old r = record { ranges = []; extras = new ∷ old ∷ []; live = (new, r) ∷ [] }

-- what is told of a rebirth: the new replica's counts, with the rows of the old dots under the new ones
abbrev pub told_again : (Dot → Option Row) → Replica → List (Dot × Dot) → ToldValue
told_again rows r pairs = record { ranges = (r, 0, length pairs) ∷ []; extras = []; live = rows_again rows pairs }

-- a rebirth of these pairs, under this replica, can follow a legal history whose set this is
pub record CanBeReborn (s : DotRows) (r : Replica) (pairs : List (Dot × Dot)) : Type 0 where
  pub before : History
  pub entry : Entry
  pub legal : IsLegal (Then before entry)
  pub holds : HoldsCovered before s
  pub new : r ≡ own (Then before entry)
  pub step : is_rebirth entry.step ≡ true
  pub pairs_are : pairs ≡ pairs_in entry.outcome

-- u is s without the dots and rows of the replicas that pass the test
abbrev pub LosesReplicas : DotRows → (Replica → Bool) → DotRows → Type 0
LosesReplicas s test u =
    (d : Dot) → (set.contains u.covered d ≡ (set.contains s.covered d && not (test d.replica)))
    × (map.get u.live d ≡ cond (test d.replica) None (map.get s.live d))

-- time makes a replica of this standing gone
abbrev pub fades : ℕ → Standing → Bool
fades time x = not (is_gone (status_of x)) && is_gone (status_of (ticked_at time x))

-- the replica is this one, which was put down and is not the own one
abbrev pub loses : Replica → Replica → Replica → Bool
loses own r q = not (same_replica r own) && same_replica q r
