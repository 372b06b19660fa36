-- What is true of every world that events can lead to.
use Rattle.std.specs.Prelude.{◌≡◌, ℕ, ◌<◌, true, IsTrue, List, slice_get, Some, None}
use Rattle.std.specs.List.{AllByRecursion}
use Rattle.std.specs.Map.{lookup}
use Rattle.std.specs.FinMap as map
use Rattle.presence_base.specs.declared.dots.Replica.{Replica}
use Rattle.presence_base.specs.Names.{is_node_name}
use Rattle.presence_base.specs.Order.{same_dot}
use Rattle.orswot_core.specs.Telling.{ToldValue}
use Rattle.orswot_core.specs.Full.{dot_of}
use Rattle.presence_journal.specs.StepLimits.{is_heard}
use Rattle.presence_journal.specs.History.{own}
use Rattle.presence_journal_laws.specs.Deeds.{AllDeeds, no_deeds}
use Rattle.presence_journal_laws.specs.Truth.{AreDeeds, TellsTrue, IsTrueOf}
use Rattle.node_world.specs.World.{LifeValue, Lives, WorldValue, next_life}

-- of one life: it is the replica's, and its list of rows has just what the replica made
pub record IsTrueLife (deeds : AllDeeds) (r : Replica) (l : LifeValue) : Type 0 where
  pub own : own l.history ≡ r
  pub is : IsTrueOf deeds l.history
  pub made : (n : ℕ) → lookup (same_dot (dot_of r n)) l.made ≡ (deeds r).made n

-- of a told value: it is true, and within the limits of what is heard
abbrev pub IsTrueTold : AllDeeds → ToldValue → Type 0
IsTrueTold deeds t = TellsTrue deeds t × (is_heard t ≡ true)

-- of the present lives: each is the newest of its name, and no two have one name
pub record ArePresent (present : List Replica) (lives : Lives) : Type 0 where
  pub newest : (n : ℕ) (r : Replica) → slice_get present n ≡ Some r → (i : ℕ) → r.incarnation < i
      → map.get lives (next_life r i) ≡ None
  pub apart : (m n : ℕ) (q r : Replica) → slice_get present m ≡ Some q → slice_get present n ≡ Some r
      → q.name ≡ r.name → m ≡ n
  pub named : (n : ℕ) (r : Replica) → slice_get present n ≡ Some r → IsTrue (is_node_name r.name)

-- of a world in which each replica did these deeds; one that has no life did nothing
pub record IsTrueBy (deeds : AllDeeds) (w : WorldValue) : Type 0 where
  pub are : (r : Replica) → AreDeeds (deeds r)
  pub lives : (r : Replica) (l : LifeValue) → map.get w.lives r ≡ Some l → IsTrueLife deeds r l
  pub told : AllByRecursion (IsTrueTold deeds) w.told
  pub fresh : (r : Replica) → map.get w.lives r ≡ None → deeds r ≡ no_deeds
  pub present : ArePresent w.present w.lives

-- there are deeds of which all this is true
pub record IsTrueWorld (w : WorldValue) : Type 0 where
  pub deeds : AllDeeds
  pub is : IsTrueBy deeds w
