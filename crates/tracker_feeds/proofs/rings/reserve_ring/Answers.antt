use Rattle.std.proofs.Common.{sym}
use Rattle.tracker_feeds.proofs.RingLemmas.{ring_kept, room_kept, room_here, on_ok}
use Rattle.tracker_feeds.proofs.rings.reserve_ring.Goals as goal

pub returns-in-Some-clause-same : goal.returns-in-Some-clause-same
returns-in-Some-clause-same c =
    let new = c.reserve.new.self in
    ring_kept c.args.rings.now (c.get_mut.follows.lender new) c.args.topic.now c.in-Some.ring.now new (sym c.in-Some.ensures.value) (c.get_mut.follows.holds new) c.reserve.ensures.seen

pub returns-in-Some-clause-kept : goal.returns-in-Some-clause-kept
returns-in-Some-clause-kept c =
    let new = c.reserve.new.self in
    room_kept c.args.rings.now (c.get_mut.follows.lender new) c.args.topic.now c.in-Some.ring.now new (sym c.in-Some.ensures.value) (c.get_mut.follows.holds new) c.reserve.ensures.kept

pub returns-in-Some-clause-room : goal.returns-in-Some-clause-room
returns-in-Some-clause-room c =
    let new = c.reserve.new.self in
    on_ok c.reserve.result (room_here c.args.rings.now (c.get_mut.follows.lender new) c.args.topic.now c.in-Some.ring.now new (sym c.in-Some.ensures.value) (c.get_mut.follows.holds new)) c.reserve.ensures.room
