use Rattle.std.proofs.Common.{cond, refl, sym, ap, ◌∙◌, [], ◌∷◌, Option, Some}
use Rattle.std.specs.BTreeMap.{get}
use Rattle.presence_base.specs.Order.{text_cmp}
use Rattle.tracker_feeds.specs.Rings.{Seen, RingMap, pushed}
use Rattle.tracker_feeds.proofs.RingLemmas.{written, room_of, below_of, ring_changed, ring_absent}
use Rattle.tracker_feeds.proofs.rings.push_ring.Goals as goal

pub push-requires-clause-room : goal.push-requires-clause-room
push-requires-clause-room c = room_of _ c.in-Some.ring.now (sym c.in-Some.ensures.value) c.requires.room

pub push-requires-clause-below : goal.push-requires-clause-below
push-requires-clause-below c = below_of _ c.in-Some.ring.now (sym c.in-Some.ensures.value) c.requires.below

pub returns-in-Some-clause-pushed : goal.returns-in-Some-clause-pushed
returns-in-Some-clause-pushed c =
    let new = c.push.new.self in
    ring_changed (λ (s : Option Seen). pushed s (c.args.item.value ∷ [])) c.args.rings.now (c.get_mut.follows.lender new) c.args.topic.now c.in-Some.ring.now new (sym c.in-Some.ensures.value) (c.get_mut.follows.holds new) c.push.ensures

pub returns-in-Some-clause-others : goal.returns-in-Some-clause-others
returns-in-Some-clause-others c = λ t apart.
    let new = c.push.new.self in
    written c.args.rings.now (c.get_mut.follows.lender new) c.args.topic.now c.in-Some.ring.now new (sym c.in-Some.ensures.value) (c.get_mut.follows.holds new) t
    ∙ ap (λ b. cond b (Some new) (get text_cmp c.args.rings.now t)) apart

pub returns-in_default-clause-pushed : goal.returns-in_default-clause-pushed
returns-in_default-clause-pushed c = ring_absent (λ (s : Option Seen). pushed s (c.args.item.value ∷ [])) c.args.rings.now c.get_mut.follows.lender-at-none c.args.topic.now c.get_mut.follows.holds-at-none (sym c.in_default.ensures.value) refl

pub returns-in_default-clause-others : goal.returns-in_default-clause-others
returns-in_default-clause-others c = λ t apart. ap (λ (m : RingMap). get text_cmp m t) c.get_mut.follows.holds-at-none
