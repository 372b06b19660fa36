use Rattle.tracker_feeds.proofs.RingLemmas.{ring_removed, ring_stays}
use Rattle.tracker_feeds.proofs.rings.part_ring.Goals as goal

pub returns-then-last : goal.returns-then-last
returns-then-last c = ring_removed c.args.rings.now c.part_from-last.new.rings c.remove.new.self c.args.topic.now c.part_from-last.result c.part_from-last.ensures (cc) c.remove.ensures.updates.0

pub returns-else-last : goal.returns-else-last
returns-else-last c = ring_stays c.args.rings.now c.part_from-last.new.rings c.args.topic.now c.part_from-last.result c.part_from-last.ensures (cc)
