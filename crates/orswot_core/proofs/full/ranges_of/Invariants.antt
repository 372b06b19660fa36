use Rattle.std.proofs.Common.{◌≡◌, ◌++◌}
use Rattle.orswot_core.specs.Full.{all_ranges}
use Rattle.orswot_core.proofs.full.ranges_of.Given as goal

abbrev pub invariant-loop-replica : goal.invariant-loop-replica
invariant-loop-replica l = l.ranges.items ++ all_ranges l.replica-iterator ≡ all_ranges l.fn.all
