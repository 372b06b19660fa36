use Rattle.std.proofs.Common.{ℕ, List, option_map, refl, sym, ap, subst}
use Rattle.std.specs.BTreeMap.{get}
use Rattle.presence_base.specs.Order.{text_cmp}
use Rattle.tracker_feeds.specs.Rings.{RingMap, seen, seen_at, RoomAt, IsBelow}
use Rattle.tracker_feeds.proofs.LoopLemmas.{there_of, pushed_more, others_kept}
use Rattle.tracker_feeds.proofs.rings.push_all.Goals as goal

pub loop-topic-init : goal.loop-topic-init
loop-topic-init c = record {
  rings = λ t. refl;
  room = c.requires.room;
  below = λ t there. c.requires.below t;
}

pub push_ring-requires-clause-room : goal.push_ring-requires-clause-room
push_ring-requires-clause-room c = c.loop-topic.invariant.room c.in-Some.topic (there_of c.loop-topic.made c.in-Some.topic c.in-Some.item c.in-Some.ensures.value)

pub push_ring-requires-clause-below : goal.push_ring-requires-clause-below
push_ring-requires-clause-below c = c.loop-topic.invariant.below c.in-Some.topic (there_of c.loop-topic.made c.in-Some.topic c.in-Some.item c.in-Some.ensures.value)

pub loop-topic-preserved : goal.loop-topic-preserved
loop-topic-preserved c =
    let now = c.loop-topic.rings in
    let new = c.push_ring.new.rings in
    let made = c.loop-topic.made in
    let rest = c.pop_first.new.self in
    let out = c.in-Some.ensures.updates.0 in
    record {
      rings = pushed_more now new c.args.rings.now made rest c.args.made.now c.in-Some.topic c.in-Some.item c.in-Some.ensures.value out c.push_ring.ensures.pushed c.loop-topic.invariant.rings;
      room = others_kept (λ (t : List ℕ) (m : RingMap). RoomAt (get text_cmp m t)) now new made rest c.in-Some.topic out (λ u apart r. subst RoomAt (sym (c.push_ring.ensures.others u apart)) r) c.loop-topic.invariant.room;
      below = others_kept (λ (t : List ℕ) (m : RingMap). IsBelow (seen_at m t)) now new made rest c.in-Some.topic out (λ u apart r. subst IsBelow (sym (ap (option_map seen) (c.push_ring.ensures.others u apart))) r) c.loop-topic.invariant.below;
    }
