-- What is claimed of every world that events can lead to, of the plain tables of its lives, of those that ended too.
use Rattle.std.specs.Prelude.{◌≡◌, ◌<◌, ◌≤◌, ℕ, true, not, ◌&&◌, ◌||◌, List, Option, Some, None, option_map}
use Rattle.std.specs.FinMap as map
use Rattle.presence_base.specs.declared.dots.Replica.{Replica}
use Rattle.presence_base.specs.declared.dots.Dot.{Dot}
use Rattle.presence_base.specs.declared.row.Row.{Row}
use Rattle.presence_base.specs.Order.{same_replica}
use Rattle.presence_journal.specs.declared.rows.Place.{Place}
use Rattle.presence_table.specs.Others.{is_up, is_gone}
use Rattle.presence_table.specs.Plain.{Table, Room, status, present, table}
use Rattle.node_world.specs.declared.event.Event.{Event}
use Rattle.node_world.specs.World.{LifeValue, WorldValue, start, Runs}
use Rattle.node_world.specs.Claims.{AreNames, WasMade}

-- the table of a replica's life, where it has one
abbrev pub table_of : WorldValue → Replica → Option Table
table_of w r = option_map (λ (l : LifeValue). table l.history) (map.get w.lives r)

-- each row that a table has present was made by its owner
abbrev pub NothingInvented : WorldValue → Type 0
NothingInvented w = (q : Replica) (t : Table) → table_of w q ≡ Some t
    → (topic : List ℕ) (p : Place) (r : Row) → map.get (present t topic) p ≡ Some r → WasMade w p.dot r

-- the table knows the dot and has no row of it, or has the dot's owner gone
abbrev pub IsOver : Table → Dot → Type 0
IsOver t d = ((t.others.known d && not (map.contains_key t.rows d)) || is_gone (status t d.replica)) ≡ true

-- what is over in the table of a life in the one world is on no topic of that life's table in the other
abbrev pub NothingResurrected : WorldValue → WorldValue → Type 0
NothingResurrected v w = (q : Replica) (t u : Table) → table_of v q ≡ Some t → table_of w q ≡ Some u
    → (p : Place) → IsOver t p.dot → (topic : List ℕ) → map.get (present u topic) p ≡ None

-- a table is caught up with a replica that used so many counts: it knows them all, and has the replica up
pub record IsCaughtUp (t : Table) (r : Replica) (n : ℕ) : Type 0 where
  pub all : (c : ℕ) → 0 < c → c ≤ n → t.others.known (record { replica = r; count = c }) ≡ true
  pub up : is_up (status t r) ≡ true

abbrev pub rows_of : Replica → Room → Room
rows_of r room = map.retain_keys room (λ p. same_replica p.dot.replica r)

-- a table that is caught up with a replica has exactly the rows of it present that the replica's own table has
abbrev pub CaughtUpIsEqual : WorldValue → Type 0
CaughtUpIsEqual w = (q r : Replica) (t own : Table) → table_of w q ≡ Some t → table_of w r ≡ Some own
    → IsCaughtUp t r own.count → (topic : List ℕ) → rows_of r (present t topic) ≡ rows_of r (present own topic)

-- Each of the three over every list of events.
abbrev pub NeverInvented : Type 0
NeverInvented = (names : List (List ℕ)) (es : List Event) (w : WorldValue) → AreNames names → Runs (start names) es w
    → NothingInvented w

abbrev pub NeverResurrected : Type 0
NeverResurrected = (names : List (List ℕ)) (early late : List Event) (v w : WorldValue) → AreNames names
    → Runs (start names) early v → Runs v late w → NothingResurrected v w

abbrev pub CaughtUpIsAlwaysEqual : Type 0
CaughtUpIsAlwaysEqual = (names : List (List ℕ)) (es : List Event) (w : WorldValue) → AreNames names → Runs (start names) es w
    → CaughtUpIsEqual w
