use Rattle.std.proofs.Common.{◌≡◌, ◌++◌, map}
use Rattle.orswot_core.specs.Full.{up_to_top}
use Rattle.orswot_core.proofs.full.ranges_up_to.Given as goal

abbrev pub invariant-loop-replica : goal.invariant-loop-replica
invariant-loop-replica l = l.ranges.items ++ map up_to_top l.replica-iterator ≡ map up_to_top l.fn.tops
