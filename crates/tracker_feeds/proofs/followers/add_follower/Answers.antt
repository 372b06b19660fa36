use Rattle.std.proofs.Common.{List, ℕ, Some, subst}
use Rattle.tracker_feeds.specs.Rings.{seen_at, IsPut}
use Rattle.tracker_feeds.proofs.CursorLemmas.{parted_joined}
use Rattle.tracker_feeds.proofs.RingLemmas.{undone}
use Rattle.tracker_feeds.proofs.followers.add_follower.Goals as goal

pub returns-in-Err-clause-same : goal.returns-in-Err-clause-same
returns-in-Err-clause-same c = undone c.args.rings.now c.join_ring.new.rings c.part_ring.new.rings c.args.topic.now (λ u. parted_joined (seen_at c.args.rings.now u) (c.requires.some u)) c.in_ok-join_ring.ensures.ok c.part_ring.ensures

pub returns-in-Ok-clause-added : goal.returns-in-Ok-clause-added
returns-in-Ok-clause-added c = subst (λ (t : List ℕ). IsPut c.args.followers.now.entries c.put_follower.new.followers.entries c.args.number (Some (record { topic = t; next = _ }))) c.in_ok-own_topic.ensures.cases c.in-Ok.ensures.ok
