use Rattle.dot_context.proofs.LoopFacts.{Filling}
use Rattle.dot_context.proofs.runs.fill_from.Given as goal

abbrev pub invariant-loop-from : goal.invariant-loop-from
invariant-loop-from l = Filling l.fn.runs.entries l.runs.entries l.from-iterator l.others.entries
