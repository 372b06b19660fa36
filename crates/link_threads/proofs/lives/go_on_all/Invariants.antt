use Rattle.shard_pool.specs.Seats.{IsOfShardAt}
use Rattle.link_threads.specs.Lives.{AllCame}
use Rattle.link_threads.proofs.lives.go_on_all.Given as goal

-- what came of the shards so far
abbrev pub invariant-loop-shard : goal.invariant-loop-shard
invariant-loop-shard g l =
    AllCame (IsOfShardAt l.pool.own.name g.L.Lanes.begins) l.incarnation l.shard l.all
