-- Whether a shard took a step, and what it left.
use Rattle.std.specs.Prelude.{◌≡◌, Bool, true, false, is_some, List, Option, None}
use Rattle.presence_base.specs.declared.dots.Dot.{Dot}
use Rattle.presence_base.specs.declared.row.Row.{Row}
use Rattle.presence_journal.specs.declared.step.Step.{Step}
use Rattle.presence_journal.specs.declared.entry.Outcome.{Outcome}
use Rattle.presence_journal.specs.History.{History}
use Rattle.presence_journal.specs.Table.{accepted, after}
use Rattle.node_world.specs.World.{added, with_row}

-- the step was taken, or refused and nothing changed
pub record Took (old new : History) (s : Step) (b : Bool) : Type 0 where
  pub is : b ≡ is_some (accepted old s)
  pub journal : new ≡ after old s None

-- the table refuses a step whose subscriber isn't there
abbrev pub RefusesMissing : Bool → Option Outcome → Type 0
RefusesMissing true o = Unit {0}
RefusesMissing false o = o ≡ None

-- the rows behind a step: the one that it adds, if it is accepted, behind the others
abbrev pub AddsRow : History → Step → List (Dot × Row) → List (Dot × Row) → Type 0
AddsRow h s old new = new ≡ with_row old (added s (accepted h s))
