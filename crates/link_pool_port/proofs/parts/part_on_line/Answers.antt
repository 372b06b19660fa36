use Rattle.shard_pool.specs.Seats.{IsOfShardAt}
use Rattle.link_pool_port.proofs.PartLemmas.{told_behind}
use Rattle.link_pool_port.proofs.parts.part_on_line.Goals as goal

pub returns-in-Ok-clause-part : goal.returns-in-Ok-clause-part
returns-in-Ok-clause-part g c =
    told_behind (IsOfShardAt c.args.pool.now.own.name g.L.Lanes.begins c.args.shard) c.args.shard c.args.count c.in_ok-part.field-0 c.in-Some.part c.in-Ok.told c.in-Some.is c.in_ok-part.ensures.lane c.in-Ok.ensures
