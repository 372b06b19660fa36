use Rattle.std.proofs.Common.{◌≡◌, drop}
use Rattle.std.specs.BTreeSet.{contains}
use Rattle.presence_base.specs.Order.{dot_cmp, same_dot}
use Rattle.orswot_core.specs.Checks.{has_repeat, dots_of}
use Rattle.orswot_core.proofs.LoopFacts.{meets}
use Rattle.orswot_core.proofs.told.has_live_twice.Given as goal

abbrev pub invariant-loop-row : goal.invariant-loop-row
invariant-loop-row l = meets same_dot (contains dot_cmp l.seen) (dots_of (drop l.row-index l.live)) ≡ has_repeat same_dot (dots_of l.live)
