use Rattle.std.proofs.Common.{sym, ap, Some}
use Rattle.tracker_feeds.specs.Rings.{joined}
use Rattle.tracker_feeds.proofs.RingLemmas.{few_of, ring_changed, ring_begun}
use Rattle.tracker_feeds.proofs.rings.join_ring.Goals as goal

pub join-requires : goal.join-requires
join-requires c = few_of _ c.in-Some.ring.now (sym c.in-Some.ensures.value) c.requires.few

pub returns-in-Some-clause-ok : goal.returns-in-Some-clause-ok
returns-in-Some-clause-ok c =
    let new = c.join.new.self in
    ring_changed joined c.args.rings.now (c.get_mut.follows.lender new) c.args.topic.now c.in-Some.ring.now new (sym c.in-Some.ensures.value) (c.get_mut.follows.holds new) (ap Some c.join.ensures)

pub returns-clause-ok : goal.returns-clause-ok
returns-clause-ok c =
    ring_begun c.args.rings.now c.get_mut.follows.lender-at-none c.insert.new.self c.args.topic.now c.in_ok-key.key c.first-ring.result
    c.get_mut.follows.holds-at-none c.in_ok-key.ensures.cases (sym c.in_default.ensures.value) c.in_ok-insert.ensures.updates.0 c.first-ring.ensures
