-- The standings of the other replicas, by a history.
use Rattle.std.specs.Prelude.{◌≡◌, ℕ, Bool, true, false, cond, not, ◌&&◌}
use Rattle.presence_base.specs.declared.dots.Replica.{Replica}
use Rattle.presence_base.specs.Order.{same_replica}
use Rattle.replica_status.specs.declared.standing.Standing.TheVariants.{Unheard}
use Rattle.replica_status.specs.declared.status.Status.{Status}
use Rattle.replica_status.specs.declared.status.Status.TheVariants as status_is
use Rattle.replica_status.specs.Boards.{standing_in}
use Rattle.replica_status.specs.Table.{status_of}
use Rattle.presence_journal.specs.declared.step.Step.TheVariants as steps_are
use Rattle.presence_journal.specs.Table.{IsLegal}
use Rattle.presence_journal.specs.declared.step.Step.{Step}
use Rattle.presence_journal.specs.declared.entry.Entry.{Entry}
use Rattle.presence_journal.specs.History.{History, Then, own, time, standing, is_gone}
use Rattle.tracker_known.specs.declared.others.Others.{Others}

-- the own replica is up
abbrev pub status_at : Others → Replica → Status
status_at o r = cond (same_replica r o.own) status_is.Up (status_of (standing_in o.standings r))

-- what is told of the own replica is not heard, and nothing that is told of one that is gone
abbrev pub hears_at : Others → Replica → Bool
hears_at o r = not (same_replica r o.own) && not (is_gone (status_at o r))

-- the time and the standings are those of a history; the own replica has none
pub record AreOthersOf (h : History) (o : Others) : Type 0 where
  pub none_own : (r : Replica) → same_replica r (own h) ≡ true → standing_in o.standings r ≡ Unheard
  pub standing : (r : Replica) → same_replica r (own h) ≡ false → standing_in o.standings r ≡ standing h r
  pub time : o.time ≡ time h
  pub own : o.own ≡ own h

-- what p holds of after any entry of the step, where o held before it
abbrev pub OthersFollow : Others → Step → Others → Type 0
OthersFollow o s p = (h : History) (e : Entry) → e.step ≡ s → AreOthersOf h o → AreOthersOf (Then h e) p

-- what p holds of after a rebirth under this incarnation
abbrev pub OthersReborn : Others → ℕ → Others → Type 0
OthersReborn o i p = (h : History) (e : Entry) → IsLegal (Then h e) → e.step ≡ steps_are.Rebirth i → AreOthersOf h o
    → AreOthersOf (Then h e) p

abbrev pub OthersStay : Others → Others → Type 0
OthersStay o p = (h : History) → AreOthersOf h o → AreOthersOf h p
