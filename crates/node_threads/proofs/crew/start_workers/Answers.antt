use Rattle.std.proofs.Common.{rules}
use Rattle.node_threads.proofs.HandedBacks.{given_to-snoc}
use Rattle.node_threads.proofs.crew.start_workers.Goals as goal

pub loop-tools-preserved : goal.loop-tools-preserved
loop-tools-preserved g c = search (rules, given_to-snoc)
