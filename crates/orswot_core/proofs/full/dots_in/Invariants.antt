use Rattle.std.proofs.Common.{◌≡◌, ◌++◌}
use Rattle.orswot_core.specs.Full.{dots_of_runs}
use Rattle.orswot_core.proofs.full.dots_in.Given as goal

abbrev pub invariant-loop-replica : goal.invariant-loop-replica
invariant-loop-replica l = l.dots.items ++ dots_of_runs l.replica-iterator ≡ dots_of_runs l.fn.cloud
