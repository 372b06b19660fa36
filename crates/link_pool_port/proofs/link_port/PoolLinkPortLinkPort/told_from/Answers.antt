use Rattle.std.proofs.Common.{refl, inr, ap, ◌∙◌}
use Rattle.shard_pool.specs.Seats.{IsOfShardAt}
use Rattle.link_pool_port.specs.Asking.{told_of}
use Rattle.link_pool_port.proofs.PartLemmas.{told_in_parts, told_whole}
use Rattle.link_pool_port.proofs.link_port.PoolLinkPortLinkPort.told_from.Goals as goal

pub returns-then-is_told_in_parts : goal.returns-then-is_told_in_parts
returns-then-is_told_in_parts g c =
    let here = IsOfShardAt c.args.self.now.pool.now.own.name g.L.Lanes.begins c.args.shard in
    let two = c.is_told_in_parts.ensures.two c.if-is_told_in_parts.true in
    let large = c.is_told_in_parts.ensures.large c.if-is_told_in_parts.true in (
      refl,
      refl,
      inr (told_in_parts here c.args.shard c.args.from c.args.form c.fitting-whole.result c.part_on_line-part.result c.told.result
          (c.told.ensures ∙ ap told_of c.shorter_reply.ensures) two large c.fitting-whole.ensures.lane
          c.part_on_line-part.ensures.part c.part_on_line-part.ensures.err),
    )

pub returns : goal.returns
returns g c =
    let here = IsOfShardAt c.args.self.now.pool.now.own.name g.L.Lanes.begins c.args.shard in
    let small = c.is_told_in_parts.ensures.small c.if-is_told_in_parts.false in (
      refl,
      refl,
      inr (told_whole here c.args.shard c.args.from c.args.form c.fitting-whole.result c.told-2.result c.told-2.ensures small
          c.fitting-whole.ensures.lane c.fitting-whole.ensures.err),
    )
