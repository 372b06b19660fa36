use Rattle.delta_range.proofs.DeltaFacts.{parts_told}
use Rattle.delta_range.proofs.delta.Delta.told_in_dots.Goals as goal

pub new-requires : goal.new-requires
new-requires c =
    parts_told c.args.self.now c.older.ensures.delta c.in_ok-ranges.ranges.items c.in_ok-extras.extras.items c.in_ok-live.live.items
    c.owner-owner.result c.from.result c.to.result c.older.result.now c.live.result.now
    c.in_ok-ranges.ensures c.in_ok-extras.ensures c.in_ok-live.ensures c.owner-owner.ensures c.from.ensures c.to.ensures c.older.ensures.older c.live.ensures.live
