use Rattle.std.proofs.Common.{◌≡◌, ◌+◌, length}
use Rattle.orswot_core.specs.Full.{dots_of_runs}
use Rattle.orswot_core.proofs.fitting.has_dots_at_most.Given as goal

abbrev pub invariant-loop-replica : goal.invariant-loop-replica
invariant-loop-replica l = l.left + length (dots_of_runs l.fn.cloud) ≡ l.fn.most + length (dots_of_runs l._replica-iterator)
