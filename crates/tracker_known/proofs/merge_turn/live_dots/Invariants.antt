use Rattle.std.proofs.Common.{◌≡◌, ◌||◌, drop}
use Rattle.std.specs.List.{list_any}
use Rattle.std.specs.BTreeSet.{contains}
use Rattle.presence_base.specs.Order.{dot_cmp, same_dot}
use Rattle.presence_base.specs.declared.dots.Dot.{Dot}
use Rattle.orswot_core.specs.Checks.{dots_of}
use Rattle.tracker_known.proofs.merge_turn.live_dots.Given as goal

abbrev pub invariant-loop-row : goal.invariant-loop-row
invariant-loop-row l = (q : Dot) → (contains dot_cmp l.dots q || list_any (same_dot q) (dots_of (drop l.row-index l.live))) ≡ list_any (same_dot q) (dots_of l.live)
