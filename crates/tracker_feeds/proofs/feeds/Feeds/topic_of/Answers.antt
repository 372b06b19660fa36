use Rattle.std.proofs.Common.{◌≡◌, Some, None, option_map, ap, subst}
use Rattle.tracker_feeds.specs.Fed.{Subscriber, Fed, topic_at}
use Rattle.tracker_feeds.specs.Rings.{seen_at}
use Rattle.tracker_feeds.proofs.FeedsLemmas.{found_at}
use Rattle.tracker_feeds.proofs.feeds.Feeds.topic_of.Goals as goal

pub returns-in-Some : goal.returns-in-Some
returns-in-Some c =
    let f = c.self.inside in
    subst (λ (v : Fed). Some c.in-Some.follower.now.topic ≡ topic_at v c.args.number) c.self.view_is
    (ap (option_map (λ (s : Subscriber). s.topic)) (found_at (seen_at f.rings) f.followers.entries f.delivered c.args.number (Some c.in-Some.follower.now) c.in-Some.ensures.value))

pub returns-in-None : goal.returns-in-None
returns-in-None c =
    let f = c.self.inside in
    subst (λ (v : Fed). None ≡ topic_at v c.args.number) c.self.view_is
    (ap (option_map (λ (s : Subscriber). s.topic)) (found_at (seen_at f.rings) f.followers.entries f.delivered c.args.number None c.in-None.ensures.value))
