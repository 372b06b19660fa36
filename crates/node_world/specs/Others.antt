-- What a node hears of what is told: of its own lives nobody else tells it anything.
use Rattle.std.specs.Prelude.{Bool, not, Option, Some, None}
use Rattle.presence_base.specs.declared.dots.Replica.{Replica}
use Rattle.presence_base.specs.Order.{same_text}
use Rattle.orswot_core.specs.Telling.{ToldValue, cut_to}

-- it is a life of this node: of its name
abbrev pub is_life_of : Replica → Replica → Bool
is_life_of own r = same_text r.name own.name

abbrev pub is_other : Replica → Replica → Bool
is_other own r = not (is_life_of own r)

-- what is heard of what is told: what is of other nodes than this one, where it is known which that is
abbrev pub of_others : Option Replica → ToldValue → ToldValue
of_others None t = t
of_others (Some own) t = cut_to (is_other own) t
