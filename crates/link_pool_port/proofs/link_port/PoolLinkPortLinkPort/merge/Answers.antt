use Rattle.std.proofs.Common.{◌≡◌, ◌∙◌, ap, subst}
use Rattle.shard_pool.specs.Seats.{IsOfShardAt}
use Rattle.node_links.specs.Asks.{merge}
use Rattle.link_pool_port.specs.Asking.{LinkStep}
use Rattle.link_pool_port.specs.Others.{of_others}
use Rattle.link_pool_port.proofs.CallLemmas.{merge_so}
use Rattle.link_pool_port.proofs.link_port.PoolLinkPortLinkPort.merge.Goals as goal

pub returns : goal.returns
returns g c =
    let port = c.args.self.now in
    let left = c.looks_at.new.self in
    let is : c.in-Ok.shared ≡ of_others port.own c.args.told = c.in-Ok.ensures ∙ ap (λ o. of_others o c.args.told) c.looks_at.ensures.own in (
      c.make.ensures.pool ∙ c.looks_at.ensures.pool,
      c.make.ensures.own ∙ c.looks_at.ensures.own,
      subst (λ p. LinkStep (IsOfShardAt p.now.own.name g.L.Lanes.begins) port.own p.now.shards (merge c.args.shard c.args.told) c.make.result) c.looks_at.ensures.pool
          (merge_so (IsOfShardAt left.pool.now.own.name g.L.Lanes.begins) port.own left.pool.now.shards c.args.shard c.make.result c.args.told c.in-Ok.shared is c.make.ensures.called),
    )
