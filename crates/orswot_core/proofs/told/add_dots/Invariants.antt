use Rattle.std.proofs.Common.{◌≡◌, ◌||◌, drop}
use Rattle.std.specs.List.{list_any}
use Rattle.std.specs.FinSet as set
use Rattle.presence_base.specs.Order.{same_dot}
use Rattle.presence_base.specs.declared.dots.Dot.{Dot}
use Rattle.orswot_core.proofs.told.add_dots.Given as goal

abbrev pub invariant-loop-dot : goal.invariant-loop-dot
invariant-loop-dot l = (q : Dot) → (set.contains l.covered q || list_any (same_dot q) (drop l.dot-index l.dots)) ≡ (set.contains l.fn.covered q || list_any (same_dot q) l.dots)
