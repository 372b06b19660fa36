-- The full told value of a set: all that is told of it, each thing once and in order.
use Rattle.std.specs.Prelude.{◌≡◌, ℕ, zero, ◌+◌, ◌-◌, ◌≤◌, Bool, true, false, cond, not, ◌&&◌, ◌||◌, nat_lt, List, [], ◌∷◌, ◌++◌, map as each_of, Option, Some, None}
use Rattle.std.specs.List.{All, list_any, list_all}
use Rattle.std.specs.Ordering.{is_lt}
use Rattle.std.specs.List.Sorted.{IsStrictlySortedBy}
use Rattle.std.specs.FinSet as set
use Rattle.std.specs.FinMap as map
use Rattle.presence_base.specs.declared.dots.Replica.{Replica}
use Rattle.presence_base.specs.declared.dots.Dot.{Dot}
use Rattle.presence_base.specs.Order.{replica_cmp, dot_cmp, same_replica, same_dot}
use Rattle.dot_context.specs.Sets.{DotSet, run_dots}
use Rattle.dot_context.specs.Forms.{Form, tops_of, cloud_of}
use Rattle.orswot_core.specs.declared.form.Form.{Form as ToldForm}
use Rattle.orswot_core.specs.declared.form.Form.TheVariants.{One, Two}
use Rattle.orswot_core.specs.Telling.{Range, ToldValue, range_has, run_ranges}
use Rattle.orswot_core.specs.Checks.{replicas_of, is_too_many_in}
use Rattle.orswot_core.specs.Sets.{DotRows}

abbrev pub dot_of : Replica → ℕ → Dot
dot_of r n = record { replica = r; count = n }

-- the range of a replica that has a covered dot: from the count 1 to its first gap, and empty where the count 1 is not covered
pub record IsTopRange (s : DotSet) (g : Range) : Type 0 where
  pub some : (n : ℕ) × (set.contains s (dot_of g.0 n) ≡ true)
  pub from : g.1 ≡ 0
  pub below : (n : ℕ) → 1 ≤ n → n ≤ g.2 → set.contains s (dot_of g.0 n) ≡ true
  pub next : set.contains s (dot_of g.0 (g.2 + 1)) ≡ false

-- a range up to its top for each replica that has a covered dot, the covered dots that lie in no range, and the live rows:
-- the ranges in order of replica, extras and rows in order of dot, each once
pub record IsFull (s : DotRows) (t : ToldValue) : Type 0 where
  pub ranges : All (IsTopRange s.covered) t.ranges
  pub replicas : (d : Dot) → set.contains s.covered d ≡ true
      → list_any (same_replica d.replica) (replicas_of t.ranges) ≡ true
  pub ranges_in_order : IsStrictlySortedBy replica_cmp (replicas_of t.ranges)
  pub extras : (d : Dot)
      → list_any (same_dot d) t.extras ≡ (set.contains s.covered d && not (list_any (range_has d) t.ranges))
  pub extras_in_order : IsStrictlySortedBy dot_cmp t.extras
  pub live : t.live ≡ map.entries s.live

-- a range that has a dot
abbrev pub is_some : Range → Bool
is_some g = nat_lt g.1 g.2

-- the second is of a later replica, or of the same one and begins above the end of the first, so that they don't meet
abbrev pub is_apart : Range → Range → Bool
is_apart g h = is_lt (replica_cmp g.0 h.0) || (same_replica g.0 h.0 && nat_lt g.2 h.1)

-- each is apart from the one before it
abbrev pub are_apart_from : Range → List Range → Bool
are_apart_from g [] = true
are_apart_from g (h ∷ hs) = is_apart g h && are_apart_from h hs

abbrev pub are_apart : List Range → Bool
are_apart [] = true
are_apart (g ∷ gs) = are_apart_from g gs

-- ranges that have the covered dots and no others, in order, none of which is empty or meets another; no extras; the live rows
-- in order of dot, each once
pub record IsFullInRuns (s : DotRows) (t : ToldValue) : Type 0 where
  pub ranges : (d : Dot) → list_any (range_has d) t.ranges ≡ set.contains s.covered d
  pub some : list_all is_some t.ranges ≡ true
  pub apart : are_apart t.ranges ≡ true
  pub extras : t.extras ≡ []
  pub live : t.live ≡ map.entries s.live

-- the full told value in each form
abbrev pub IsFullIn : ToldForm → DotRows → ToldValue → Type 0
IsFullIn One s t = IsFull s t
IsFullIn Two s t = IsFullInRuns s t

-- the range up to a replica's top
abbrev pub up_to_top : Replica × ℕ → Range
up_to_top p = (p.0, 0, p.1)

-- the dots of the runs of each replica, one after another
abbrev pub dots_of_runs : Form → List Dot
dots_of_runs [] = []
dots_of_runs (e ∷ es) = run_dots e.0 e.1 ++ dots_of_runs es

-- what a form lists
abbrev pub top_ranges : Form → List Range
top_ranges f = each_of up_to_top (tops_of f)

abbrev pub dots_above : Form → List Dot
dots_above f = dots_of_runs (cloud_of f)

abbrev pub all_ranges : Form → List Range
all_ranges [] = []
all_ranges (e ∷ es) = run_ranges e.0 e.1 ++ all_ranges es

-- how many counts the runs have
abbrev pub counts_in : List (ℕ × ℕ) → ℕ
counts_in [] = zero
counts_in (r ∷ rs) = (r.1 - r.0) + counts_in rs

-- what is left of so many behind so many others, where these are no more
abbrev pub left_behind : ℕ → ℕ → Option ℕ
left_behind left n = cond (nat_lt left n) None (Some (left - n))

-- whether what is told so has no more in the form than a node takes in
abbrev pub Fits : ToldForm → (ToldValue → Type 0) → Bool → Type 0
Fits form Is fits = (t : ToldValue) × Is t × (fits ≡ not (is_too_many_in form t))
