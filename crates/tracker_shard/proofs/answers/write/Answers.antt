use Rattle.tracker_shard.proofs.Tables.{made}
use Rattle.tracker_shard.proofs.answers.write.Goals as goal

pub returns-clause-made : goal.returns-clause-made
returns-clause-made c = made c.args.table.now.history c.args.step c.args.seat c.args.outcome c.requires.table c.requires.room _ c.in_ok-append.ensures.ok
