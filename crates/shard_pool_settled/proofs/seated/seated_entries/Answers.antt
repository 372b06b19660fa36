use Rattle.shard_pool_settled.proofs.Entries.{seated_whole}
use Rattle.shard_pool_settled.proofs.seated.seated_entries.Goals as goal

pub returns : goal.returns
returns c = seated_whole _ c.entries.result.now c.args.journal.now c.count_seated.result c.entries.ensures.history c.count_seated.ensures
