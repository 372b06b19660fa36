-- What is claimed of every world that events can lead to, while what is told is lost, repeated, reordered or late. The
-- claims speak of every life of every node, of those that ended too.
use Rattle.std.specs.Prelude.{◌≡◌, ◌<◌, ◌≤◌, ℕ, true, false, ◌||◌, List, ◌++◌, Some, None}
use Rattle.std.specs.List.{list_all}
use Rattle.std.specs.FinMap as map
use Rattle.std.specs.Map.{lookup}
use Rattle.presence_base.specs.declared.dots.Replica.{Replica}
use Rattle.presence_base.specs.declared.dots.Dot.{Dot}
use Rattle.presence_base.specs.declared.row.Row.{Row}
use Rattle.presence_base.specs.Names.{is_node_name}
use Rattle.presence_base.specs.Order.{same_text, same_dot}
use Rattle.orswot_core.specs.Checks.{has_repeat}
use Rattle.orswot_core.specs.Full.{dot_of}
use Rattle.presence_journal.specs.History.{History, is_up, is_gone, status, count, known, removed, shown}
use Rattle.node_world.specs.declared.event.Event.{Event}
use Rattle.node_world.specs.World.{LifeValue, WorldValue, start, Runs}

-- names within their limits, no two of them equal
pub record AreNames (ns : List (List ℕ)) : Type 0 where
  pub are : list_all is_node_name ns ≡ true
  pub once : has_repeat same_text ns ≡ false

-- the owner of the dot made this row under it, with all that is in it
abbrev pub WasMade : WorldValue → Dot → Row → Type 0
WasMade w d r = (m : LifeValue) × (map.get w.lives d.replica ≡ Some m) × (lookup (same_dot d) m.made ≡ Some r)

-- each row that a life shows was made by its owner
abbrev pub NothingInvented : WorldValue → Type 0
NothingInvented w = (q : Replica) (l : LifeValue) → map.get w.lives q ≡ Some l → (d : Dot) (r : Row)
    → shown l.history d ≡ Some r → WasMade w d r

-- the life knows that the row of the dot was removed, or has the dot's owner gone
abbrev pub IsOver : History → Dot → Type 0
IsOver h d = (removed h d || is_gone (status h d.replica)) ≡ true

-- what is over in a life of the one world is not shown by that life in the other
abbrev pub NothingResurrected : WorldValue → WorldValue → Type 0
NothingResurrected v w = (q : Replica) (g h : LifeValue) → map.get v.lives q ≡ Some g → map.get w.lives q ≡ Some h
    → (d : Dot) → IsOver g.history d → shown h.history d ≡ None

-- a life is caught up with a replica that used so many counts: it knows them all, and has the replica up
pub record IsCaughtUp (h : History) (r : Replica) (n : ℕ) : Type 0 where
  pub all : (c : ℕ) → 0 < c → c ≤ n → known h (dot_of r c) ≡ true
  pub up : is_up (status h r) ≡ true

-- a life that is caught up with a replica shows exactly the rows of it that the replica's own history shows
abbrev pub CaughtUpIsEqual : WorldValue → Type 0
CaughtUpIsEqual w = (q r : Replica) (g h : LifeValue) → map.get w.lives q ≡ Some g → map.get w.lives r ≡ Some h
    → IsCaughtUp g.history r (count h.history) → (n : ℕ) → shown g.history (dot_of r n) ≡ shown h.history (dot_of r n)

-- Each of the three over every list of events.
abbrev pub NeverInvented : Type 0
NeverInvented = (names : List (List ℕ)) (es : List Event) (w : WorldValue) → AreNames names → Runs (start names) es w
    → NothingInvented w

abbrev pub NeverResurrected : Type 0
NeverResurrected = (names : List (List ℕ)) (early late : List Event) (v w : WorldValue) → AreNames names
    → Runs (start names) early v → Runs v late w → NothingResurrected v w

abbrev pub CaughtUpIsAlwaysEqual : Type 0
CaughtUpIsAlwaysEqual = (names : List (List ℕ)) (es : List Event) (w : WorldValue) → AreNames names → Runs (start names) es w
    → CaughtUpIsEqual w

-- of a world that these events led to, and of each one on the way to it: what was over there is not shown any more
abbrev pub NothingResurrectedBy : WorldValue → List Event → WorldValue → Type 0
NothingResurrectedBy start es w = (early late : List Event) → es ≡ early ++ late → (v : WorldValue) → Runs start early v
    → Runs v late w → NothingResurrected v w
