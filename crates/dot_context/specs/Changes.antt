-- What a change of the runs of each replica leaves.
use Rattle.std.specs.Prelude.{◌≡◌, ℕ, Bool, true, false, cond, ◌&&◌, ◌||◌, List, [], Option}
use Rattle.std.specs.BTreeMap.{get}
use Rattle.presence_base.specs.declared.dots.Replica.{Replica}
use Rattle.presence_base.specs.declared.dots.Dot.{Dot}
use Rattle.presence_base.specs.Order.{replica_cmp, same_replica}
use Rattle.dot_context.specs.Runs.{holds, begins, has_room, AreApart, Opens, Fills, Sweeps}
use Rattle.dot_context.specs.Sets.{RunsOf, runs_at, runs_in, HasSome}

-- n has what m has, but `new` at r
abbrev pub ChangesAt : RunsOf → RunsOf → Replica → Option (List (ℕ × ℕ)) → Type 0
ChangesAt m n r new = (q : Replica) → get replica_cmp n q ≡ cond (same_replica r q) new (get replica_cmp m q)

abbrev pub has_dot : RunsOf → Dot → Bool
has_dot m d = holds (runs_at m d.replica) d.count

-- n has the dots of m
abbrev pub SameDots : RunsOf → RunsOf → Type 0
SameDots m n = (d : Dot) → has_dot n d ≡ has_dot m d

-- n has the dots of m, and more
abbrev pub AddsDots : RunsOf → RunsOf → (Dot → Bool) → Type 0
AddsDots m n more = (d : Dot) → has_dot n d ≡ (has_dot m d || more d)

-- the runs of each replica keep apart
abbrev pub AllApart : RunsOf → Type 0
AllApart m = (q : Replica) → AreApart 0 (runs_at m q)

-- each replica that is there has runs, or each but some
abbrev pub AllHaveRuns : RunsOf → Type 0
AllHaveRuns m = (q : Replica) → HasSome (get replica_cmp m q)

abbrev pub OthersHaveRuns : RunsOf → (Replica → Bool) → Type 0
OthersHaveRuns m but = (q : Replica) → but q ≡ false → HasSome (get replica_cmp m q)

abbrev pub NoneHasRuns : RunsOf → (Replica → Bool) → Type 0
NoneHasRuns m these = (q : Replica) → these q ≡ true → runs_at m q ≡ []

-- the counts that the runs of one replica hold, and where they begin
abbrev pub held_by : Replica → List (ℕ × ℕ) → Replica → ℕ → Bool
held_by r rs = λ q n. same_replica q r && holds rs n

abbrev pub begun_by : Replica → List (ℕ × ℕ) → Replica → ℕ → Bool
begun_by r rs = λ q g. same_replica q r && begins rs g

-- the same of all replicas' runs
abbrev pub held_in : RunsOf → Replica → ℕ → Bool
held_in m = λ q. holds (runs_at m q)

abbrev pub begun_in : RunsOf → Replica → ℕ → Bool
begun_in m = λ q. begins (runs_in m.entries q)

-- there is room for the runs that begin at these places
abbrev pub HasRoomAt : RunsOf → (Replica → ℕ → Bool) → Type 0
HasRoomAt m asked = (q : Replica) (g : ℕ) → asked q g ≡ true → has_room (runs_at m q) g ≡ true

-- each replica's runs get room, are filled, or are swept
abbrev pub OpensAll : RunsOf → RunsOf → (Replica → ℕ → Bool) → Type 0
OpensAll m n asked = (q : Replica) → Opens (runs_at m q) (runs_at n q) (asked q)

abbrev pub FillsAll : RunsOf → RunsOf → (Replica → ℕ → Bool) → (Replica → ℕ → Bool) → Type 0
FillsAll m n more filled = (q : Replica) → Fills (runs_at m q) (runs_at n q) (more q) (filled q)

abbrev pub SweepsAll : RunsOf → RunsOf → (Replica → ℕ → Bool) → Type 0
SweepsAll m n swept = (q : Replica) → Sweeps (runs_at m q) (runs_at n q) (swept q)
