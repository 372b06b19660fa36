use Rattle.std.proofs.Common.{◌≡◌, ◌++◌}
use Rattle.presence_journal_cuts.specs.Parting.{vacant}
use Rattle.presence_journal_cuts.proofs.part.push_vacant.Given as goal

-- what was found and what is found of the rest make up all
abbrev pub invariant-loop-dot : goal.invariant-loop-dot
invariant-loop-dot l = l.runs.items ++ vacant l.fn.to l.low l.dot-iterator ≡ l.fn.runs.items ++ vacant l.fn.to l.fn.from l.fn.rows
