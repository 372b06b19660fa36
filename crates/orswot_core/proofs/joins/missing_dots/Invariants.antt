use Rattle.std.proofs.Common.{◌≡◌, ◌&&◌, ◌||◌, not, drop}
use Rattle.std.specs.List.{list_any}
use Rattle.std.specs.FinSet as set
use Rattle.presence_base.specs.Order.{same_dot}
use Rattle.presence_base.specs.declared.dots.Dot.{Dot}
use Rattle.orswot_core.specs.Checks.{dots_of}
use Rattle.orswot_core.proofs.joins.missing_dots.Given as goal

abbrev pub invariant-loop-row : goal.invariant-loop-row
invariant-loop-row l = (q : Dot) →
    (list_any (same_dot q) l.added.items || (not (set.contains l.covered q) && list_any (same_dot q) (dots_of (drop l.row-index l.rows))))
    ≡ (not (set.contains l.covered q) && list_any (same_dot q) (dots_of l.rows))
