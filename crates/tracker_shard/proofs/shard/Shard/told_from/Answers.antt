use Rattle.std.proofs.Common.{rules}
use Rattle.tracker_shard.proofs.shard.Shard.told_from.Goals as goal

pub returns-clause-told : goal.returns-clause-told
returns-clause-told c = search rules
