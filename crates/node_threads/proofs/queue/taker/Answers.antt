use Rattle.node_threads.proofs.Risings.{forks}
use Rattle.node_threads.proofs.queue.taker.Goals as goal

pub another-requires-clause-rule : goal.another-requires-clause-rule
another-requires-clause-rule g c = forks _ _
