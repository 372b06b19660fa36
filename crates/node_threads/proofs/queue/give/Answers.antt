use Rattle.node_threads.proofs.Risings.{gives, learns}
use Rattle.node_threads.proofs.queue.give.Goals as goal

pub push_as-requires-clause-rule : goal.push_as-requires-clause-rule
push_as-requires-clause-rule g c = (gives _ _ _ _ c.requires.pass.1 c.requires.rises, learns _ _ c.requires.pass.1)
