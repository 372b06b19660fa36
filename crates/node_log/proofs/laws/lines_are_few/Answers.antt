use Rattle.node_log.proofs.Few.{few_within}
use Rattle.node_log.proofs.laws.lines_are_few.Goals as goal

-- src/laws.rt
pub returns : goal.returns
returns c = λ q second events most. few_within q second events most
