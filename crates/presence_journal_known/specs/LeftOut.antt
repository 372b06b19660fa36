-- A set without the replicas that are gone.
use Rattle.std.specs.Prelude.{◌≡◌, Bool, true, false, cond, ◌||◌, List, [], ◌∷◌, Option, Some, None}
use Rattle.std.specs.List.{list_any}
use Rattle.std.specs.FinSet as set
use Rattle.std.specs.FinMap as map
use Rattle.presence_base.specs.declared.dots.Dot.{Dot}
use Rattle.presence_base.specs.declared.dots.Replica.{Replica}
use Rattle.presence_base.specs.Order.{same_replica}
use Rattle.orswot_core.specs.Sets.{DotRows, without_replica}
use Rattle.replica_status.specs.declared.standing.Standing.{Standing}
use Rattle.presence_journal.specs.declared.step.Step.TheVariants as steps_are
use Rattle.presence_journal.specs.declared.step.Step.{Step}
use Rattle.presence_journal.specs.declared.entry.Entry.{Entry}
use Rattle.presence_journal.specs.History.{History, own_after, known, live, covered, status, is_gone}

-- the set of what is covered, with the live rows of the replicas that are not gone
pub record HoldsCovered (h : History) (s : DotRows) : Type 0 where
  pub covered : (d : Dot) → set.contains s.covered d ≡ covered h d
  pub live : (d : Dot) → map.get s.live d ≡ cond (is_gone (status h d.replica)) None (live h d)

-- the same, but for replicas that may still have to be left out
pub record LeavesOut (h : History) (left : Replica → Bool) (s : DotRows) : Type 0 where
  pub kept : (d : Dot) → is_gone (status h d.replica) ≡ false → (set.contains s.covered d ≡ known h d)
      × (map.get s.live d ≡ live h d)
  pub lost : (d : Dot) → is_gone (status h d.replica) ≡ true → left d.replica ≡ false
      → (set.contains s.covered d ≡ false) × (map.get s.live d ≡ None)

-- without the replica, where it is gone
abbrev pub without_gone : History → DotRows → Option Replica → DotRows
without_gone h s None = s
without_gone h s (Some r) = cond (is_gone (status h r)) (without_replica s r) s

-- the replica that a step hears or puts down, where this is the own one before it
abbrev pub named_by : Replica → Step → Option Replica
named_by o (steps_are.Heard replica now) = Some replica
named_by o (steps_are.PermDown replica) = Some replica
named_by o (steps_are.Rebirth incarnation) = Some o
named_by o _ = None

abbrev pub is_it : Option Replica → Replica → Bool
is_it None r = false
is_it (Some x) r = same_replica r x

abbrev pub is_named : Replica → List Entry → Replica → Bool
is_named o [] r = false
is_named o (e ∷ es) r = is_it (named_by o e.step) r || is_named (own_after e.step o) es r

abbrev pub is_listed : List (Replica × Standing) → Replica → Bool
is_listed xs r = list_any (λ x. same_replica r x.0) xs

abbrev pub none_left : Replica → Bool
none_left r = false

-- those of the listed that are gone are left out, whoever else may still have to be
abbrev pub LeavesListed : History → List (Replica × Standing) → DotRows → DotRows → Type 0
LeavesListed h xs s u = (later : Replica → Bool) → LeavesOut h (λ r. is_listed xs r || later r) s → LeavesOut h later u
