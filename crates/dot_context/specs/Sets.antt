-- What the runs of each replica stand for: a set of dots.
use Rattle.std.specs.Prelude.{◌≡◌, ℕ, true, ◌-◌, ◌<◌, ◌≤◌, zero, suc, Bool, not, cond, ◌&&◌, nat_lt, nat_le, List, [], ◌∷◌, ◌++◌, length, Option, Some, None, false}
use Rattle.std.specs.FinSet as set
use Rattle.std.specs.BTreeMap.{BTreeMap, get}
use Rattle.presence_base.specs.declared.dots.Replica.{Replica}
use Rattle.presence_base.specs.declared.dots.Dot.{Dot}
use Rattle.presence_base.specs.Order.{dot_cmp, replica_cmp, same_replica}
use Rattle.dot_context.specs.Runs.{AreRuns, AreApart, has_room, is_hollow, begins}

abbrev pub DotSet : Type 0
DotSet = set.FinSet dot_cmp

-- all of the replica's dots up to a count are in the set
abbrev pub HasUpTo : DotSet → Replica → ℕ → Type 0
HasUpTo s r top = (n : ℕ) → 1 ≤ n → n ≤ top → set.contains s (record { replica = r; count = n }) ≡ true

-- a dot of the replica is in the set
pub record SomeDot (s : DotSet) (r : Replica) : Type 0 where
  pub count : ℕ
  pub there : set.contains s (record { replica = r; count = count }) ≡ true

-- whether the set has dots of the replica
abbrev pub TellsIfAny : DotSet → Replica → Bool → Type 0
TellsIfAny s r true = SomeDot s r
TellsIfAny s r false = (n : ℕ) → set.contains s (record { replica = r; count = n }) ≡ false

-- the dots of the k counts above `from`
abbrev pub span : Replica → ℕ → ℕ → List Dot
span r from zero = []
span r from (suc k) = record { replica = r; count = suc from } ∷ span r (suc from) k

-- the dots above `from` up to `to`
unfoldable pub range : Replica → ℕ → ℕ → DotSet
range r from to = set.from_list (span r from (to - from))

-- whether a dot lies in a range
abbrev pub in_range : Replica → ℕ → ℕ → Dot → Bool
in_range r from to d = same_replica d.replica r && (nat_lt from d.count && nat_le d.count to)

-- the other replicas' dots
unfoldable pub others_dots : DotSet → Replica → DotSet
others_dots s r = set.retain s (λ d. not (same_replica d.replica r))

-- the dots that the runs of a replica stand for
abbrev pub run_dots : Replica → List (ℕ × ℕ) → List Dot
run_dots r [] = []
run_dots r (x ∷ xs) = span r x.0 (x.1 - x.0) ++ run_dots r xs

-- the dots that the runs of each replica stand for
unfoldable pub set_of : List (Replica × List (ℕ × ℕ)) → DotSet
set_of [] = set.empty
set_of (e ∷ es) =
    set.union (set.from_list (run_dots e.0 e.1)) (set.retain (set_of es) (λ d. not (same_replica d.replica e.0)))

abbrev pub RunsOf : Type 0
RunsOf = BTreeMap Replica (List (ℕ × ℕ))

-- the runs that a look-up found, or none
abbrev pub listed : Option (List (ℕ × ℕ)) → List (ℕ × ℕ)
listed None = []
listed (Some rs) = rs

-- the runs of a replica
abbrev pub runs_at : RunsOf → Replica → List (ℕ × ℕ)
runs_at m r = listed (get replica_cmp m r)

-- the runs of the entries of a replica
abbrev pub runs_in : List (Replica × List (ℕ × ℕ)) → Replica → List (ℕ × ℕ)
runs_in [] r = []
runs_in (e ∷ es) r = cond (same_replica r e.0) e.1 [] ++ runs_in es r

-- a replica that is there has runs
abbrev pub HasSome : Option (List (ℕ × ℕ)) → Type 0
HasSome None = Unit {0}
HasSome (Some rs) = 0 < length rs

-- each replica that is there has some runs, the longest ones
pub record IsCompact (m : RunsOf) : Type 0 where
  pub runs : (r : Replica) → AreRuns 0 (runs_at m r)
  pub some : (r : Replica) → HasSome (get replica_cmp m r)

-- each run of the others has room in m, and no run of m is hollow but for that room
pub record HasRoomFor (m others : RunsOf) : Type 0 where
  pub compact : IsCompact others
  pub apart : (r : Replica) → AreApart 0 (runs_at m r)
  pub some : (r : Replica) → HasSome (get replica_cmp m r)
  pub room : (r : Replica) (g : ℕ) → begins (runs_in others.entries r) g ≡ true → has_room (runs_at m r) g ≡ true
  pub hollow : (r : Replica) (g : ℕ) → is_hollow (runs_at m r) g ≡ true → begins (runs_in others.entries r) g ≡ true

-- a context and the dots that it has room for
pub record Planned : Type 0 where
  pub held : DotSet
  pub more : DotSet
