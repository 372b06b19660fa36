use Rattle.std.proofs.Common.{◌≡◌, ◌++◌}
use Rattle.orswot_core.specs.Telling.{run_ranges}
use Rattle.orswot_core.proofs.full.push_ranges.Given as goal

abbrev pub invariant-loop-from : goal.invariant-loop-from
invariant-loop-from l = l.ranges.items ++ run_ranges l.replica l.from-iterator ≡ l.fn.ranges.items ++ run_ranges l.replica l.fn.runs
