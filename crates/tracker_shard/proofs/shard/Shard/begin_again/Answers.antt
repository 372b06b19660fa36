use Rattle.std.proofs.Common.{rules}
use Rattle.tracker_shard.proofs.shard.Shard.begin_again.Goals as goal

pub returns-clause-ok : goal.returns-clause-ok
returns-clause-ok c = search rules

pub returns-clause-queues : goal.returns-clause-queues
returns-clause-queues c = search rules
