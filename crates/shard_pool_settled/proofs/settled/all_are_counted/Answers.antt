use Rattle.std.proofs.Common.{arith}
use Rattle.std.proofs.lemmas.Grind.{common_steps}
use Rattle.shard_pool_settled.proofs.settled.all_are_counted.Goals as goal

pub loop-shard-preserved : goal.loop-shard-preserved
loop-shard-preserved c = grind (arith, common_steps)
