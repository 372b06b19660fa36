use Rattle.std.proofs.Common.{◌≡◌, ◌||◌, drop}
use Rattle.std.specs.List.{list_any}
use Rattle.std.specs.FinSet as set
use Rattle.presence_base.specs.declared.dots.Dot.{Dot}
use Rattle.orswot_core.specs.Telling.{range_has}
use Rattle.orswot_core.proofs.told.add_ranges.Given as goal

abbrev pub invariant-loop-range : goal.invariant-loop-range
invariant-loop-range l = (q : Dot) → (set.contains l.covered q || list_any (range_has q) (drop l.range-index l.ranges)) ≡ (set.contains l.fn.covered q || list_any (range_has q) l.ranges)
