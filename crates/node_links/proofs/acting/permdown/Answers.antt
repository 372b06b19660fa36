use Rattle.std.proofs.lemmas.Result.{err_from_is_err_and}
use Rattle.node_links.proofs.Playing.{downs_more, downs_refused}
use Rattle.node_links.proofs.acting.permdown.Goals as goal

pub returns-in_err-permdown : goal.returns-in_err-permdown
returns-in_err-permdown g c =
    let p = err_from_is_err_and c.from_residual.result c.from_residual.ensures.1 in
    rw (p.1, p.2, ← c.shards-shard-end.ensures)
    (downs_refused g.P.LinkPort.step c.args.replica.now c.shards-shard-end.result 0 c.shards-shard-end.result c.loop-shard.shard
    c.args.port.now c.loop-shard.port c.permdown.new.self _ c.loop-shard-test.true c.loop-shard.invariant c.in_err-permdown.ensures)

pub loop-shard-preserved : goal.loop-shard-preserved
loop-shard-preserved g c = downs_more g.P.LinkPort.step c.args.replica.now c.shards-shard-end.result 0 c.shards-shard-end.result c.loop-shard.shard
    c.args.port.now c.loop-shard.port c.permdown.new.self _ c.loop-shard-test.true c.loop-shard.invariant c.in_ok-permdown.ensures
