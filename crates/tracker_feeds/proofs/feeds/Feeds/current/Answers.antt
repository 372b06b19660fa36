use Rattle.std.proofs.Common.{sym, subst}
use Rattle.tracker_feeds.specs.Listed.{AreCurrent}
use Rattle.tracker_feeds.proofs.ListingLemmas.{are_current}
use Rattle.tracker_feeds.proofs.feeds.Feeds.current.Goals as goal

pub returns : goal.returns
returns c = subst (AreCurrent c.args.self.now) (sym c.new.ensures) (are_current c.args.self.now c.args.subscribers.now c.in_ok-numbers.numbers.items c.requires c.in_ok-numbers.ensures)
