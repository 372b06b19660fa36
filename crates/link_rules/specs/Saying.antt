-- When it is said that a link is up.
use Rattle.std.specs.Prelude.{Bool, true, not, ◌&&◌, ◌||◌, Option, Some, None}
use Rattle.presence_base.specs.declared.dots.Replica.{Replica}
use Rattle.presence_base.specs.Order.{same_replica}

-- another node than the one that was met last
abbrev pub is_other : Option Replica → Replica → Bool
is_other None r = true
is_other (Some q) r = not (same_replica q r)

-- of another node at once; of the same one, where it was said to be down, once the link has stood for a while
abbrev pub comes_up : Option Replica → Bool → Replica → Bool → Bool
comes_up known is_up r has_stood = is_other known r || (not is_up && has_stood)
