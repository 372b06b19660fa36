use Rattle.tracker_known.proofs.ToldAgainLemmas.{told_made}
use Rattle.tracker_known.proofs.told_again.told_of.Goals as goal

pub new-requires-2 : goal.new-requires-2
new-requires-2 c =
    told_made c.args.set.now c.args.new c.args.pairs.now c.requires c.new-ranges.result.items c.push.new.self.items c.new.result.items c.in_ok-live.live.items
    c.new-ranges.ensures.items c.in_ok-push.ensures.items c.new.ensures.items c.in_ok-live.ensures
