use Rattle.std.proofs.Common.{◌≡◌, ◌++◌, drop}
use Rattle.dot_context.specs.Sets.{run_dots}
use Rattle.delta_range.proofs.runs.dots_of.Given as goal

abbrev pub invariant-loop-run : goal.invariant-loop-run
invariant-loop-run l = l.dots.items ++ run_dots l.owner (drop l.run-index l.runs) ≡ run_dots l.owner l.fn.runs
