use Rattle.std.proofs.Common.{◌≡◌, cond, None, drop}
use Rattle.std.specs.List.{list_any}
use Rattle.std.specs.BTreeMap.{get}
use Rattle.presence_base.specs.Order.{dot_cmp, same_dot}
use Rattle.presence_base.specs.declared.dots.Dot.{Dot}
use Rattle.orswot_core.proofs.joins.drop_dots.Given as goal

abbrev pub invariant-loop-dot : goal.invariant-loop-dot
invariant-loop-dot l = (q : Dot) → cond (list_any (same_dot q) (drop l.dot-index l.dots)) None (get dot_cmp l.live q) ≡ cond (list_any (same_dot q) l.dots) None (get dot_cmp l.fn.live q)
