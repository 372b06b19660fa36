use Rattle.std.proofs.Common.{sym, subst}
use Rattle.tracker_feeds.specs.Fed.{Fed}
use Rattle.tracker_feeds.specs.Listed.{AreListed}
use Rattle.tracker_feeds.specs.Rings.{seen_at, fed}
use Rattle.tracker_feeds.proofs.ListingLemmas.{are_listed}
use Rattle.tracker_feeds.proofs.feeds.Feeds.subscribers.Goals as goal

pub returns : goal.returns
returns c =
    let f = c.self.inside in
    subst (λ (v : Fed). AreListed v c.new.result) c.self.view_is
    (subst (AreListed (fed (seen_at f.rings) f.followers.entries f.delivered)) (sym c.new.ensures) (are_listed (seen_at f.rings) f.followers.entries f.delivered c.in_ok-list.list.items c.in_ok-list.ensures.topics c.in_ok-list.ensures.ordered c.in_ok-list.ensures.short))
