-- What a life goes on as under a higher incarnation.
use Rattle.std.specs.Prelude.{◌≡◌, ℕ, List, Option, Some, None}
use Rattle.std.specs.FinMap as map
use Rattle.presence_base.specs.declared.dots.Dot.{Dot}
use Rattle.presence_base.specs.declared.row.Row.{Row}
use Rattle.orswot_core.specs.Sets.{DotRows}
use Rattle.presence_journal.specs.declared.entry.Outcome.TheVariants as outcomes_are
use Rattle.presence_journal.specs.declared.entry.Outcome.{Outcome}
use Rattle.presence_journal.specs.History.{History}
use Rattle.presence_journal_known.specs.LeftOut.{HoldsCovered}
use Rattle.node_world.specs.World.{LifeValue, gone_on, rows_under}

-- the life that goes on from another one, where the outcome is a rebirth
abbrev pub going_on : ℕ → LifeValue → Option Outcome → Option LifeValue
going_on i l (Some (outcomes_are.Reborn pairs)) = Some (gone_on i pairs l)
going_on i l _ = None

-- the rows that a history has live under the new dots
pub record AreMade (h : History) (pairs : List (Dot × Dot)) (rows : List (Dot × Row)) : Type 0 where
  pub set : DotRows
  pub holds : HoldsCovered h set
  pub are : rows ≡ rows_under (map.get set.live) pairs
