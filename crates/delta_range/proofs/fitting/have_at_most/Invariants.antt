use Rattle.std.proofs.Common.{◌≡◌, ◌+◌, drop}
use Rattle.delta_range.specs.Fitting.{counts_in}
use Rattle.delta_range.proofs.fitting.have_at_most.Given as goal

-- what is left and what was counted make up the most
abbrev pub invariant-loop-run : goal.invariant-loop-run
invariant-loop-run l = l.left + counts_in l.runs ≡ l.most + counts_in (drop l.run-index l.runs)
