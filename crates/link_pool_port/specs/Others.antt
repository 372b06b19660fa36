-- What is told of other nodes: of its own lives nobody but the node itself tells it anything.
use Rattle.std.specs.Prelude.{Bool, not, ◌||◌, ◌&&◌, ℕ, ◌-◌, nat_le, max, cond, List, [], ◌∷◌, Option, Some, None}
use Rattle.std.specs.List.{list_any}
use Rattle.presence_base.specs.declared.dots.Dot.{Dot}
use Rattle.presence_base.specs.declared.dots.Replica.{Replica}
use Rattle.presence_base.specs.declared.row.Row.{Row}
use Rattle.presence_base.specs.Order.{same_text}
use Rattle.orswot_core.specs.Telling.{Range, ToldValue, cut_to}

-- it is a life of this node: of its name
abbrev pub is_life_of : Replica → Replica → Bool
is_life_of own r = same_text r.name own.name

abbrev pub is_other : Replica → Replica → Bool
is_other own r = not (is_life_of own r)

-- a life of the node is among these
abbrev pub is_in_ranges : Replica → List Range → Bool
is_in_ranges own gs = list_any (λ g. is_life_of own g.0) gs

abbrev pub is_in_dots : Replica → List Dot → Bool
is_in_dots own ds = list_any (λ d. is_life_of own d.replica) ds

abbrev pub is_in_rows : Replica → List (Dot × Row) → Bool
is_in_rows own xs = list_any (λ x. is_life_of own x.0.replica) xs

-- a life of the node is told of
abbrev pub tells_of : Replica → ToldValue → Bool
tells_of own t = is_in_ranges own t.ranges || (is_in_dots own t.extras || is_in_rows own t.live)

-- what is heard of what is told: what is of other nodes than this one, where it is known which that is
abbrev pub of_others : Option Replica → ToldValue → ToldValue
of_others None t = t
of_others (Some own) t = cut_to (is_other own) t

-- the incarnation of a life of this node that is above its own by no more than that, and of any other replica 0
abbrev pub life_in : Replica → ℕ → Replica → ℕ
life_in own most r = cond (is_life_of own r && nat_le (r.incarnation - own.incarnation) most) r.incarnation 0

-- the highest of these that are told of
abbrev pub highest_in : Replica → ℕ → List Range → ℕ
highest_in own most [] = 0
highest_in own most (g ∷ gs) = max (life_in own most g.0) (highest_in own most gs)
