use Rattle.shard_pool.specs.Seats.{IsOfShardAt}
use Rattle.link_pool_port.proofs.CallLemmas.{heard_so}
use Rattle.link_pool_port.proofs.link_port.PoolLinkPortLinkPort.heard.Goals as goal

pub returns : goal.returns
returns g c =
    let port = c.args.self.now in
    let pool = port.pool.now in (
      c.make.ensures.pool,
      c.make.ensures.own,
      heard_so (IsOfShardAt pool.own.name g.L.Lanes.begins) port.own pool.shards c.args.shard c.make.result c.args.replica c.args.now c.make.ensures.called,
    )
