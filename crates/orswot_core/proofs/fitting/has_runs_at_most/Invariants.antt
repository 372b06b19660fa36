use Rattle.std.proofs.Common.{◌≡◌, ◌+◌, length}
use Rattle.orswot_core.specs.Full.{all_ranges}
use Rattle.orswot_core.proofs.fitting.has_runs_at_most.Given as goal

abbrev pub invariant-loop-replica : goal.invariant-loop-replica
invariant-loop-replica l = l.left + length (all_ranges l.fn.all) ≡ l.fn.most + length (all_ranges l._replica-iterator)
