use Rattle.std.proofs.Common.{◌≡◌, ◌++◌}
use Rattle.dot_context.specs.Sets.{run_dots}
use Rattle.orswot_core.proofs.full.push_runs.Given as goal

abbrev pub invariant-loop-from : goal.invariant-loop-from
invariant-loop-from l = l.dots.items ++ run_dots l.replica l.from-iterator ≡ l.fn.dots.items ++ run_dots l.replica l.fn.runs
