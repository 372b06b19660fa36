use Rattle.std.proofs.Common.{◌≡◌, ◌∙◌, subst}
use Rattle.tracker_feeds.specs.Fed.{Fed, is_followed}
use Rattle.tracker_feeds.proofs.FeedsLemmas.{ring_there}
use Rattle.tracker_feeds.proofs.feeds.Feeds.is_followed.Goals as goal

pub returns : goal.returns
returns c =
    let f = c.self.inside in
    subst (λ (v : Fed). c.contains_key.result ≡ is_followed v c.args.topic.now) c.self.view_is
    (c.contains_key.ensures ∙ ring_there f.rings f.followers.entries f.delivered c.args.topic.now c.self.invariant)
