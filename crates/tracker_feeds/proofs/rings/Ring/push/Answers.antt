use Rattle.std.proofs.Common.{◌+◌, Some}
use Rattle.tracker_feeds.proofs.RingLemmas.{newest_pushed}
use Rattle.tracker_feeds.proofs.rings.Ring.push.Goals as goal

pub returns : goal.returns
returns c =
    let old = c.args.self.now in
    λ i. Some (record {
      made = old.made + 1;
      items = newest_pushed old.items.items c.make_way.new.items.items c.push_back_reserved.new.self.items c.args.item c.make_way.ensures.items c.push_back_reserved.ensures.items i;
      followers = old.followers;
    })
