use Rattle.std.proofs.Common.{sym}
use Rattle.tracker_feeds.proofs.RingLemmas.{parted_at, parted_absent}
use Rattle.tracker_feeds.proofs.rings.part_from.Goals as goal

pub returns-in-Some : goal.returns-in-Some
returns-in-Some c =
    let new = c.part.new.self in
    parted_at c.args.rings.now (c.get_mut.follows.lender new) c.args.topic.now c.in-Some.ring.now new c.part.result (sym c.in-Some.ensures.value) (c.get_mut.follows.holds new) c.part.ensures

pub returns-in-None : goal.returns-in-None
returns-in-None c = parted_absent c.args.rings.now c.get_mut.follows.lender-at-none c.args.topic.now c.get_mut.follows.holds-at-none (sym c.in-None.ensures.value)
