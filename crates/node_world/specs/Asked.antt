-- What is asked of a world.
use Rattle.std.specs.Prelude.{ℕ, List, [], Option, Some, None, slice_get}
use Rattle.std.specs.FinMap as map
use Rattle.presence_base.specs.declared.dots.Replica.{Replica}
use Rattle.presence_base.specs.declared.dots.Dot.{Dot}
use Rattle.presence_base.specs.declared.row.Row.{Row}
use Rattle.presence_journal.specs.History.{count}
use Rattle.presence_journal.specs.Present.{listed}
use Rattle.node_world.specs.World.{LifeValue, Lives, WorldValue}
use Rattle.node_world.specs.Claims.{IsCaughtUp}

abbrev pub life_in : Lives → Option Replica → Option LifeValue
life_in l None = None
life_in l (Some r) = map.get l r

-- the present life of a node
abbrev pub present_life : WorldValue → ℕ → Option LifeValue
present_life w n = life_in w.lives (slice_get w.present n)

-- what it lists on a topic, in order; nobody lists nothing
abbrev pub listed_of : Option LifeValue → List ℕ → List (Dot × Row)
listed_of None topic = []
listed_of (Some l) topic = listed l.history topic

-- a life is caught up with a replica that has one
abbrev pub CaughtUpBy : Option LifeValue → Option LifeValue → Replica → Type 0
CaughtUpBy None o r = ⊥
CaughtUpBy (Some g) None r = ⊥
CaughtUpBy (Some g) (Some h) r = IsCaughtUp g.history r (count h.history)

-- a node is caught up with a replica that has a life
abbrev pub IsCaughtUpWith : WorldValue → ℕ → Replica → Type 0
IsCaughtUpWith w n r = CaughtUpBy (present_life w n) (map.get w.lives r) r
