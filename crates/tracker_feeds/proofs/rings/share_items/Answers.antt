use Rattle.std.proofs.Common.{arith}
use Rattle.tracker_feeds.proofs.RingLemmas.{shared_more}
use Rattle.tracker_feeds.proofs.rings.share_items.Goals as goal

pub loop-i-preserved : goal.loop-i-preserved
loop-i-preserved c = shared_more c.args.items.now.items c.loop-i.shared.items c.push.new.self.items c.args.from c.loop-i.i c.in_ok-item.item c.index.result.now (omega arith) c.index.ensures c.in_ok-item.ensures c.loop-i.invariant c.in_ok-push.ensures.items
