use Rattle.std.proofs.Common.{◌≡◌, drop}
use Rattle.std.specs.BTreeSet.{contains}
use Rattle.presence_base.specs.Order.{replica_cmp, same_replica}
use Rattle.orswot_core.specs.Checks.{has_repeat, replicas_of}
use Rattle.orswot_core.proofs.LoopFacts.{meets}
use Rattle.orswot_core.proofs.told.has_two_ranges.Given as goal

abbrev pub invariant-loop-range : goal.invariant-loop-range
invariant-loop-range l = meets same_replica (contains replica_cmp l.seen) (replicas_of (drop l.range-index l.ranges)) ≡ has_repeat same_replica (replicas_of l.ranges)
