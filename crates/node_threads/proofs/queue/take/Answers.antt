use Rattle.node_threads.proofs.Risings.{takes}
use Rattle.node_threads.proofs.queue.take.Goals as goal

pub pop_as-requires-clause-rule : goal.pop_as-requires-clause-rule
pop_as-requires-clause-rule g c = (takes _ _, λ items views h at. tt)
