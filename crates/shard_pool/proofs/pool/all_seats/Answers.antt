use Rattle.std.proofs.Common.{rules}
use Rattle.shard_pool.proofs.pool.all_seats.Goals as goal

-- one search for all of it gives up
pub loop-seat-preserved : goal.loop-seat-preserved
loop-seat-preserved g c =
    (search rules, search rules, search rules, search rules, search rules, search rules, search rules, search rules, search rules)
