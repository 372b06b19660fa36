-- The facts that the claims rest on, of every world that events can lead to.
use Rattle.std.specs.Prelude.{◌≡◌, ℕ, true, List, slice_get, Some}
use Rattle.std.specs.FinMap as map
use Rattle.presence_base.specs.declared.dots.Dot.{Dot}
use Rattle.presence_base.specs.declared.row.Row.{Row}
use Rattle.orswot_core.specs.Telling.{ToldValue, live_row, tells_removed}
use Rattle.presence_journal.specs.History.{removed}
use Rattle.node_world.specs.declared.event.Event.{Event}
use Rattle.node_world.specs.World.{LifeValue, WorldValue, start, Runs}
use Rattle.node_world.specs.Claims.{AreNames, WasMade}
use Rattle.node_world.specs.TrueWorlds.{IsTrueWorld}

-- this holds of each world that events lead to
abbrev pub Always : (WorldValue → Type 0) → Type 0
Always Holds = (names : List (List ℕ)) (es : List Event) (w : WorldValue) → AreNames names → Runs (start names) es w
    → Holds w

-- each row that was told was made by its owner
abbrev pub ToldRowsWereMade : WorldValue → Type 0
ToldRowsWereMade w = (n : ℕ) (t : ToldValue) → slice_get w.told n ≡ Some t → (d : Dot) (r : Row)
    → live_row t d ≡ Some r → WasMade w d r

-- each dot that was told as removed is removed in its owner's own history: its row was taken out there, or it is the count
-- of a removal
abbrev pub ToldRemovalsWereMade : WorldValue → Type 0
ToldRemovalsWereMade w = (n : ℕ) (t : ToldValue) → slice_get w.told n ≡ Some t → (d : Dot) → tells_removed t d ≡ true
    → (m : LifeValue) × (map.get w.lives d.replica ≡ Some m) × (removed m.history d ≡ true)

abbrev pub RowsAreMade : Type 0
RowsAreMade = Always ToldRowsWereMade

abbrev pub RemovalsAreMade : Type 0
RemovalsAreMade = Always ToldRemovalsWereMade

-- each replica did deeds that are those of its own history and of its list of rows, and all that is known or was told
-- anywhere is true of them
abbrev pub WorldsAreTrue : Type 0
WorldsAreTrue = Always IsTrueWorld
