use Rattle.std.proofs.Common.{refl, ◌∙◌}
use Rattle.std.specs.BTreeMap.{get}
use Rattle.presence_base.specs.Order.{text_cmp}
use Rattle.tracker_feeds.proofs.LoopLemmas.{room_begun, room_more, room_done}
use Rattle.tracker_feeds.proofs.rings.reserve_all.Goals as goal

pub loop-topic-init : goal.loop-topic-init
loop-topic-init c = record {
  same = λ t. refl;
  room = room_begun c.args.made.now.entries _ c.args.rings.now c.into_iter-topic-iterator.ensures.into_iter_gives.0;
}

pub loop-topic-preserved : goal.loop-topic-preserved
loop-topic-preserved c = record {
  same = λ t. c.reserve_ring.ensures.same t ∙ c.loop-topic.invariant.same t;
  room = λ t. room_more (get text_cmp c.args.made.now t) c.loop-topic.topic-iterator c.next.new.self c.in-Some.topic.now c.in-Some._item.now c.loop-topic.rings c.reserve_ring.new.rings t c.in-Some.ensures.steps (c.loop-topic.invariant.room t) (c.reserve_ring.ensures.kept t) c.in_ok-reserve_ring.ensures.room;
}

pub returns-clause-room : goal.returns-clause-room
returns-clause-room c = λ t there. c.loop-topic.invariant.room t there (room_done c.loop-topic.topic-iterator t c.in-None.ensures.steps.0)
