use Rattle.std.proofs.Common.{◌≡◌, ◌++◌, drop}
use Rattle.delta_range.specs.Longest.{up_to}
use Rattle.delta_range.proofs.runs.push_up_to.Given as goal

abbrev pub invariant-loop-run : goal.invariant-loop-run
invariant-loop-run l = l.runs.items ++ up_to l.end (drop l.run-index l.more) ≡ l.fn.runs.items ++ up_to l.end l.more
