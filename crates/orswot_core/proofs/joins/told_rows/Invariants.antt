use Rattle.std.proofs.Common.{◌≡◌, drop}
use Rattle.std.specs.Map.{lookup}
use Rattle.std.specs.BTreeMap.{get}
use Rattle.presence_base.specs.Order.{dot_cmp, same_dot}
use Rattle.presence_base.specs.declared.dots.Dot.{Dot}
use Rattle.orswot_core.specs.Sets.{first_row}
use Rattle.orswot_core.proofs.joins.told_rows.Given as goal

abbrev pub invariant-loop-row : goal.invariant-loop-row
invariant-loop-row l = (q : Dot) → first_row (get dot_cmp l.live q) (lookup (same_dot q) (drop l.row-index l.rows)) ≡ lookup (same_dot q) l.rows
