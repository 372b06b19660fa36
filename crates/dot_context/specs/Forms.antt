-- The one compact form of a set of dots.
use Rattle.std.specs.Prelude.{◌≡◌, ℕ, ◌<◌, cond, nat_lt, List, [], ◌∷◌, length, map}
use Rattle.std.specs.List.{All}
use Rattle.std.specs.List.Sorted.{IsStrictlySortedBy}
use Rattle.std.specs.Map.{keys_of}
use Rattle.std.specs.Borrow.{Bor}
use Rattle.presence_base.specs.declared.dots.Replica.{Replica}
use Rattle.presence_base.specs.Order.{replica_cmp}
use Rattle.dot_context.specs.Runs.{AreRuns, top_count, above_top}
use Rattle.dot_context.specs.Sets.{DotSet, set_of}

-- the runs of each replica
abbrev pub Form : Type 0
Form = List (Replica × List (ℕ × ℕ))

-- the replicas ascend, and each has some runs, the longest ones; together they have the dots of the set and no others
pub record IsForm (s : DotSet) (f : Form) : Type 0 where
  pub dots : set_of f ≡ s
  pub replicas : IsStrictlySortedBy replica_cmp (keys_of f)
  pub runs : All (λ e. AreRuns 0 e.1 × (0 < length e.1)) f

-- the replicas of which the count 1 is there, each with the count up to which all are
abbrev pub vector_of : Form → List (Replica × ℕ)
vector_of [] = []
vector_of (e ∷ es) = cond (nat_lt 0 (top_count e.1)) ((e.0, top_count e.1) ∷ vector_of es) (vector_of es)

-- the replicas that have runs above the first gap, each with these runs
abbrev pub cloud_of : Form → Form
cloud_of [] = []
cloud_of (e ∷ es) = cond (nat_lt 0 (length (above_top e.1))) ((e.0, above_top e.1) ∷ cloud_of es) (cloud_of es)

-- each replica that is there with the count up to which all are, which is 0 where the count 1 is not
abbrev pub tops_of : Form → List (Replica × ℕ)
tops_of f = map (λ e. (e.0, top_count e.1)) f

-- what an entry of the vector, or of the tops, shows
abbrev pub range_shown : Bor Replica × ℕ → Replica × ℕ
range_shown p = (p.0.now, p.1)

-- what an entry of the cloud, or of the runs, shows
abbrev pub runs_shown : Bor Replica × List (ℕ × ℕ) → Replica × List (ℕ × ℕ)
runs_shown p = (p.0.now, p.1)

-- a set has one form: equal sets have equal ones
abbrev pub HasOneForm : DotSet → Type 0
HasOneForm s = (f g : Form) → IsForm s f → IsForm s g → f ≡ g

-- a form of the set has the property
abbrev pub IfFormed : DotSet → (Form → Type 0) → Type 0
IfFormed s P = (f : Form) × IsForm s f × P f
