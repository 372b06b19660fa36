use Rattle.delta_range.proofs.FormFacts.{parts_told_in_runs}
use Rattle.delta_range.proofs.delta.Delta.told_in_runs.Goals as goal

pub new-requires-2 : goal.new-requires-2
new-requires-2 c =
    parts_told_in_runs c.args.self.now c.older-older.ensures.delta c.in_ok-ranges.ranges.items c.new.result.items c.in_ok-live.live.items
    c.owner-owner.result c.from.result c.to.result c.older-older.result.now c.live.result.now
    c.in_ok-ranges.ensures c.new.ensures.items c.in_ok-live.ensures c.owner-owner.ensures c.from.ensures c.to.ensures c.older-older.ensures.older c.live.ensures.live
