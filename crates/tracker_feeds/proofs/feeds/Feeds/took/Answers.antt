use Rattle.std.proofs.Common.{option_map, subst, sym, Some}
use Rattle.tracker_feeds.specs.Fed.{Fed, found, left_with, IsChanged}
use Rattle.tracker_feeds.specs.Rings.{seen_at, fed}
use Rattle.tracker_feeds.proofs.FedLemmas.{can_take}
use Rattle.tracker_feeds.proofs.FeedsLemmas.{looked_at, sound_taken, changed_taken}
use Rattle.tracker_feeds.proofs.feeds.Feeds.took.Goals as goal

pub move_follower-requires : goal.move_follower-requires
move_follower-requires c = λ g is.
    let f = c.self.inside in
    can_take (seen_at f.rings) f.followers.entries f.delivered c.args.number g c.self.invariant (looked_at f.followers.entries c.args.number (Some g) (sym is))

pub invariant_of-self : goal.invariant_of-self
invariant_of-self c =
    let f = c.self.inside in
    sound_taken (seen_at f.rings) f.followers c.move_follower.new.followers.entries f.delivered c.args.number c.args.max c.move_follower.ensures c.self.invariant

pub returns : goal.returns
returns c =
    let f = c.self.inside in
    subst (λ (v : Fed). IsChanged v (fed (seen_at f.rings) c.move_follower.new.followers.entries f.delivered) c.args.number (option_map (left_with c.args.max) (found v c.args.number))) c.self.view_is
    (changed_taken (seen_at f.rings) f.followers c.move_follower.new.followers.entries f.delivered c.args.number c.args.max c.move_follower.ensures)
