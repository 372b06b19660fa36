-- Joined: two deltas of one owner, the second of which goes on from the first, as one.
use Rattle.std.specs.Prelude.{◌≡◌, ℕ, cond, not, ◌&&◌, ◌||◌, nat_eq, List, ◌++◌, Option, Some, None, Result, Ok, Err}
use Rattle.std.specs.List.{filter}
use Rattle.std.specs.FinSet as set
use Rattle.presence_base.specs.declared.dots.Replica.{Replica}
use Rattle.presence_base.specs.declared.dots.Dot.{Dot}
use Rattle.presence_base.specs.declared.row.Row.{Row}
use Rattle.presence_base.specs.Order.{same_replica}
use Rattle.dot_context.specs.Runs.{holds}
use Rattle.dot_context.specs.Sets.{DotSet}
use Rattle.orswot_core.specs.Telling.{ToldValue, covers, live_row}
use Rattle.delta_range.specs.Deltas.{DeltaValue, telling}
use Rattle.delta_range.specs.Longest.{up_to, longest}
use Rattle.delta_range.specs.declared.fault.DeltaFault.{DeltaFault}
use Rattle.delta_range.specs.declared.fault.DeltaFault.TheVariants.{OtherOwner, NotContiguous, OutOfMemory}

-- the rows that a told value doesn't cover
abbrev pub not_covered : ToldValue → List (Dot × Row) → List (Dot × Row)
not_covered t xs = filter (λ x. not (covers t x.0)) xs

-- the rows whose dots a set hasn't
abbrev pub not_in : DotSet → List (Dot × Row) → List (Dot × Row)
not_in s xs = filter (λ x. not (set.contains s x.0)) xs

-- the set has the counts of these runs of the owner, and no other dot
abbrev pub HasRuns : DotSet → Replica → List (ℕ × ℕ) → Type 0
HasRuns s owner rs = (q : Dot) → set.contains s q ≡ (same_replica q.replica owner && holds rs q.count)

-- one range; the older counts of both below it; the rows of b, with those of a that b doesn't cover before them
unfoldable pub joined : DeltaValue → DeltaValue → DeltaValue
joined a b = record {
  owner = a.owner;
  from = a.from;
  to = b.to;
  older = longest (up_to a.from (a.older ++ b.older));
  live = not_covered (telling b) a.live ++ b.live;
}

-- c covers what a or b covers; what b covers is told as b tells it, and all else as a does
pub record Joined (a b c : DeltaValue) : Type 0 where
  pub union : (d : Dot) → covers (telling c) d ≡ (covers (telling a) d || covers (telling b) d)
  pub rows : (d : Dot)
      → live_row (telling c) d ≡ cond (covers (telling b) d) (live_row (telling b) d) (live_row (telling a) d)

-- why b doesn't go on from a, memory aside
abbrev pub first_fault : DeltaValue → DeltaValue → Option DeltaFault
first_fault a b =
    cond (not (same_replica a.owner b.owner)) (Some OtherOwner)
    (cond (not (nat_eq a.to b.from)) (Some NotContiguous) None)

-- the fault is the first one; memory runs out only where there is none
abbrev pub IsFault : DeltaFault → Option DeltaFault → Type 0
IsFault OutOfMemory first = first ≡ None
IsFault f first = first ≡ Some f

-- the joined delta exactly where there is no fault, else that fault
abbrev pub IsJoinAnswer : Result DeltaValue DeltaFault → DeltaValue → DeltaValue → Type 0
IsJoinAnswer (Ok c) a b = (first_fault a b ≡ None) × (c ≡ joined a b)
IsJoinAnswer (Err f) a b = IsFault f (first_fault a b)
