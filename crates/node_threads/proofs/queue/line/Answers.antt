use Rattle.node_threads.proofs.Risings.{begins}
use Rattle.node_threads.proofs.queue.line.Goals as goal

pub ruled-requires-clause-rule : goal.ruled-requires-clause-rule
ruled-requires-clause-rule g c = begins g.row.S.Denot
