use Rattle.std.proofs.Common.{◌≡◌, ◌&&◌, ◌||◌, drop}
use Rattle.std.specs.List.{list_any}
use Rattle.std.specs.BTreeMap.{get}
use Rattle.presence_base.specs.Order.{dot_cmp, same_dot}
use Rattle.presence_base.specs.declared.dots.Dot.{Dot}
use Rattle.orswot_core.specs.Telling.{range_has}
use Rattle.orswot_core.specs.Sets.{is_left}
use Rattle.orswot_core.proofs.joins.gather_ranges.Given as goal

abbrev pub invariant-loop-range : goal.invariant-loop-range
invariant-loop-range l = (q : Dot) →
    (list_any (same_dot q) l.gone.items || (is_left (get dot_cmp l.live q) (get dot_cmp l.told q) && list_any (range_has q) (drop l.range-index l.ranges)))
    ≡ (list_any (same_dot q) l.fn.gone.items || (is_left (get dot_cmp l.live q) (get dot_cmp l.told q) && list_any (range_has q) l.ranges))
