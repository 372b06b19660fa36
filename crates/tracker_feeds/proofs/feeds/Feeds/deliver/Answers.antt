use Rattle.std.proofs.Common.{◌+◌, refl, sym, ap, subst, arith}
use Rattle.tracker_feeds.specs.Fed.{Fed, SameFed, IsDelivered, items_for}
use Rattle.tracker_feeds.specs.Rings.{seen_at, fed, IsBelow}
use Rattle.tracker_feeds.proofs.CursorLemmas.{below_held}
use Rattle.tracker_feeds.proofs.FedLemmas.{same_fed}
use Rattle.tracker_feeds.proofs.FeedsLemmas.{sound_delivered, is_delivered}
use Rattle.tracker_feeds.proofs.RingLemmas.{on_err}
use Rattle.tracker_feeds.proofs.feeds.Feeds.deliver.Goals as goal

pub push_all-requires-clause-room : goal.push_all-requires-clause-room
push_all-requires-clause-room c = c.in_ok-reserve_all.ensures.room

pub push_all-requires-clause-below : goal.push_all-requires-clause-below
push_all-requires-clause-below c = λ t.
    let f = c.self.inside in
    subst IsBelow (sym (c.reserve_all.ensures.same t)) (below_held (seen_at f.rings t) f.delivered (c.self.invariant.held t) (let e = ap (λ (v : Fed). v.delivered) c.self.view_is in omega (arith, e, c.requires)))

pub returns-in_err-reserve_all-clause-err : goal.returns-in_err-reserve_all-clause-err
returns-in_err-reserve_all-clause-err c =
    let f = c.self.inside in
    let r = c.reserve_all.new.rings in
    on_err c.from_residual.result (subst (λ (v : Fed). SameFed v (fed (seen_at r) f.followers.entries f.delivered)) c.self.view_is
    (same_fed (seen_at f.rings) (seen_at r) f.followers.entries f.followers.entries f.delivered c.reserve_all.ensures.same refl))

pub invariant_of-self-2 : goal.invariant_of-self-2
invariant_of-self-2 c =
    let f = c.self.inside in
    sound_delivered (seen_at f.rings) (seen_at c.reserve_all.new.rings) (seen_at c.push_all.new.rings) f.followers.entries f.delivered c.args.made.now c.reserve_all.ensures.same c.push_all.ensures.rings c.self.invariant

pub returns-clause-ok : goal.returns-clause-ok
returns-clause-ok c =
    let f = c.self.inside in
    let r = c.push_all.new.rings in
    subst (λ (v : Fed). IsDelivered v (fed (seen_at r) f.followers.entries (f.delivered + 1)) (items_for c.args.made.now)) c.self.view_is
    (is_delivered (seen_at f.rings) (seen_at c.reserve_all.new.rings) (seen_at r) f.followers.entries f.delivered c.args.made.now c.reserve_all.ensures.same c.push_all.ensures.rings c.self.invariant)
