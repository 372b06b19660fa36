use Rattle.std.proofs.Common.{◌≡◌, ◌++◌, drop}
use Rattle.orswot_core.specs.Telling.{run_ranges}
use Rattle.delta_range.proofs.joining.ranges_before.Given as goal

abbrev pub invariant-loop-run : goal.invariant-loop-run
invariant-loop-run l = l.ranges.items ++ run_ranges l.owner (drop l.run-index l.runs) ≡ run_ranges l.owner l.runs
