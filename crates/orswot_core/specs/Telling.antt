-- Telling: what a told value covers, and which adds and removes it tells (Bieniusa et al., 2012).
use Rattle.std.specs.Prelude.{◌≡◌, ℕ, Bool, cond, ◌&&◌, ◌||◌, List, [], ◌∷◌, Option, None, is_none}
use Rattle.std.specs.List.{filter, list_any}
use Rattle.std.specs.Map.{lookup}
use Rattle.std.specs.FinSet as set
use Rattle.presence_base.specs.declared.dots.Replica.{Replica}
use Rattle.presence_base.specs.declared.dots.Dot.{Dot}
use Rattle.presence_base.specs.declared.row.Row.{Row}
use Rattle.presence_base.specs.Order.{same_dot}
use Rattle.dot_context.specs.Sets.{DotSet, in_range}

-- the dots of a replica above one count, up to another
abbrev pub Range : Type 0
Range = Replica × ℕ × ℕ

-- the runs of a replica's counts, each as a range
abbrev pub run_ranges : Replica → List (ℕ × ℕ) → List Range
run_ranges r [] = []
run_ranges r (x ∷ xs) = (r, x.0, x.1) ∷ run_ranges r xs

pub record ToldValue : Type 0 where
  pub ranges : List Range
  pub extras : List Dot
  pub live : List (Dot × Row)

abbrev pub range_has : Dot → Range → Bool
range_has d g = in_range g.0 g.1 g.2 d

abbrev pub lies_in : List Range → Dot → Bool
lies_in gs d = list_any (range_has d) gs

abbrev pub is_among : List Dot → Dot → Bool
is_among ds d = list_any (same_dot d) ds

-- whether a range or an extra has the dot
abbrev pub is_told_by : List Range → List Dot → Dot → Bool
is_told_by gs es d = lies_in gs d || is_among es d

abbrev pub covers : ToldValue → Dot → Bool
covers t d = is_told_by t.ranges t.extras d

-- t has the dots of s, and more
abbrev pub CoversMore : DotSet → DotSet → (Dot → Bool) → Type 0
CoversMore s t more = (d : Dot) → set.contains t d ≡ (set.contains s d || more d)

-- the first row that is told live at the dot: its add is told
abbrev pub live_row : ToldValue → Dot → Option Row
live_row t d = lookup (same_dot d) t.live

-- what is covered and not live is told as removed
abbrev pub tells_removed : ToldValue → Dot → Bool
tells_removed t d = covers t d && is_none (live_row t d)

-- what is told of some replicas alone
abbrev pub cut_to : (Replica → Bool) → ToldValue → ToldValue
cut_to picks t = record {
  ranges = filter (λ g. picks g.0) t.ranges;
  extras = filter (λ d. picks d.replica) t.extras;
  live = filter (λ x. picks x.0.replica) t.live;
}

-- it covers their dots, and tells their rows
abbrev pub CutTellsOfSome : Type 0
CutTellsOfSome = (picks : Replica → Bool) (t : ToldValue) (d : Dot)
    → (covers (cut_to picks t) d ≡ (picks d.replica && covers t d))
    × (live_row (cut_to picks t) d ≡ cond (picks d.replica) (live_row t d) None)
