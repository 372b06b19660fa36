use Rattle.shard_pool.specs.Seats.{IsOfShardAt}
use Rattle.serve_ports.proofs.Asking.{called_so}
use Rattle.serve_ports.proofs.pool_port.PoolPort.make.Goals as goal

pub returns-clause-asked : goal.returns-clause-asked
returns-clause-asked g c =
    let old = c.args.self.now in
    let S = g.S.Call in
    let call = c.args.call.now in
    called_so (IsOfShardAt old.pool.now.own.name g.L.Lanes.begins) (S.there call) old.pool.now.shards old.seat.now c.call-answer.new.seat c.args.topic.now (S.step call) (S.gives call) c.call-answer.result.answer c.value.result c.call-answer.ensures c.value.ensures
