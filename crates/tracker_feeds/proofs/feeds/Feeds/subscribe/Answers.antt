use Rattle.std.proofs.Common.{Some, OnOk, OnErr, ap, ◌∙◌, subst}
use Rattle.tracker_feeds.specs.Fed.{Fed, found, newcomer, SameFed, IsChanged}
use Rattle.tracker_feeds.specs.Rings.{seen_at, fed}
use Rattle.tracker_feeds.proofs.CursorLemmas.{has_some}
use Rattle.tracker_feeds.proofs.FeedsLemmas.{nobody, few_at, sound_added, changed_added, same_refused}
use Rattle.tracker_feeds.proofs.feeds.Feeds.subscribe.Goals as goal

pub add_follower-requires-clause-few : goal.add_follower-requires-clause-few
add_follower-requires-clause-few c =
    let f = c.self.inside in
    few_at (seen_at f.rings) f.followers.entries f.delivered c.len-few.result c.args.topic.now c.self.invariant c.len-few.ensures.len c.len-few.ensures.small

pub add_follower-requires-clause-some : goal.add_follower-requires-clause-some
add_follower-requires-clause-some c = λ t. has_some (seen_at c.self.inside.rings t) c.self.inside.delivered (c.self.invariant.held t)

pub invariant_of-self : goal.invariant_of-self
invariant_of-self c =
    let f = c.self.inside in
    sound_added (seen_at f.rings) (seen_at c.add_follower.new.rings) f.followers.entries c.add_follower.new.followers.entries f.delivered c.args.number c.args.topic.now c.add_follower.result
    (nobody (seen_at f.rings) f.followers.entries f.delivered c.args.number (ap (λ (v : Fed). found v c.args.number) c.self.view_is ∙ c.requires))
    c.add_follower.ensures.joined c.add_follower.ensures.same c.add_follower.ensures.added c.add_follower.ensures.kept c.self.invariant

pub returns-clause-ok : goal.returns-clause-ok
returns-clause-ok c =
    let f = c.self.inside in
    let n = c.add_follower.new in
    subst (λ (v : Fed). OnOk c.add_follower.result (IsChanged v (fed (seen_at n.rings) n.followers.entries f.delivered) c.args.number (Some (newcomer c.args.topic.now)))) c.self.view_is
    (changed_added (seen_at f.rings) (seen_at n.rings) f.followers.entries n.followers.entries f.delivered c.args.number c.args.topic.now c.add_follower.result c.add_follower.ensures.joined c.add_follower.ensures.added c.self.invariant)

pub returns-clause-err : goal.returns-clause-err
returns-clause-err c =
    let f = c.self.inside in
    let n = c.add_follower.new in
    subst (λ (v : Fed). OnErr c.add_follower.result (SameFed v (fed (seen_at n.rings) n.followers.entries f.delivered))) c.self.view_is
    (same_refused (seen_at f.rings) (seen_at n.rings) f.followers.entries n.followers.entries f.delivered c.args.number c.args.topic.now c.add_follower.result c.add_follower.ensures.same c.add_follower.ensures.kept)
