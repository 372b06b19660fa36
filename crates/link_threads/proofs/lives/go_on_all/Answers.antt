use Rattle.shard_pool.specs.Seats.{IsOfShardAt}
use Rattle.link_threads.proofs.ManyCame.{one_more}
use Rattle.link_threads.proofs.lives.go_on_all.Goals as goal

pub loop-shard-preserved : goal.loop-shard-preserved
loop-shard-preserved g c =
    one_more (IsOfShardAt c.args.pool.now.own.name g.L.Lanes.begins) c.args.incarnation
    c.loop-shard.shard c.loop-shard.all c.and_option-all.result c.go_on_at.result c.loop-shard.invariant c.go_on_at.ensures c.and_option-all.ensures
