use Rattle.dot_context.proofs.LoopFacts.{Sweeping}
use Rattle.dot_context.proofs.runs.sweep_from.Given as goal

abbrev pub invariant-loop-from : goal.invariant-loop-from
invariant-loop-from l = Sweeping l.fn.runs.entries l.runs.entries l.from-iterator l.others.entries
