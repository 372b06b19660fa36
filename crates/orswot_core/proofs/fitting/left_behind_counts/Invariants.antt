use Rattle.std.proofs.Common.{◌≡◌, ◌+◌}
use Rattle.orswot_core.specs.Full.{counts_in}
use Rattle.orswot_core.proofs.fitting.left_behind_counts.Given as goal

-- what is left and what was counted make up the most
abbrev pub invariant-loop-from : goal.invariant-loop-from
invariant-loop-from l = l.left + counts_in l.fn.runs ≡ l.fn.most + counts_in l.from-iterator
