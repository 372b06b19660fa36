use Rattle.std.proofs.Common.{◌≡◌, ◌+◌, length}
use Rattle.orswot_core.proofs.fitting.left_behind_runs.Given as goal

abbrev pub invariant-loop-run : goal.invariant-loop-run
invariant-loop-run l = l.left + length l.fn.runs ≡ l.fn.most + length l._run-iterator
