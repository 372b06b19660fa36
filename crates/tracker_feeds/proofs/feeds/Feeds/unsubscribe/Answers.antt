use Rattle.std.proofs.Common.{None, subst}
use Rattle.tracker_feeds.specs.Fed.{Fed, IsChanged}
use Rattle.tracker_feeds.specs.Rings.{seen_at, fed}
use Rattle.tracker_feeds.proofs.FeedsLemmas.{sound_out, changed_out}
use Rattle.tracker_feeds.proofs.feeds.Feeds.unsubscribe.Goals as goal

pub invariant_of-self : goal.invariant_of-self
invariant_of-self c =
    let f = c.self.inside in
    let n = c.drop_follower.new in
    sound_out (seen_at f.rings) (seen_at n.rings) f.followers n.followers.entries f.delivered c.args.number c.drop_follower.ensures.rings c.drop_follower.ensures.followers c.self.invariant

pub returns : goal.returns
returns c =
    let f = c.self.inside in
    let n = c.drop_follower.new in
    subst (λ (v : Fed). IsChanged v (fed (seen_at n.rings) n.followers.entries f.delivered) c.args.number None) c.self.view_is
    (changed_out (seen_at f.rings) (seen_at n.rings) f.followers n.followers.entries f.delivered c.args.number c.drop_follower.ensures.rings c.drop_follower.ensures.followers c.self.invariant)
