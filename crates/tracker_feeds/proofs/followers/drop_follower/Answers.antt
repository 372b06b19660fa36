use Rattle.std.proofs.Common.{Option, refl, subst}
use Rattle.tracker_feeds.specs.Rings.{seen_at, IsDropped}
use Rattle.tracker_feeds.specs.declared.followers.Follower.{Follower}
use Rattle.tracker_feeds.proofs.PutLemmas.{taken_out}
use Rattle.tracker_feeds.proofs.followers.drop_follower.Goals as goal

pub returns-in-Some-clause-rings : goal.returns-in-Some-clause-rings
returns-in-Some-clause-rings c = subst (λ (o : Option Follower). IsDropped (seen_at c.args.rings.now) (seen_at c.part_ring.new.rings) o) c.in-Some.ensures.value c.part_ring.ensures

pub returns-in-Some-clause-followers : goal.returns-in-Some-clause-followers
returns-in-Some-clause-followers c = taken_out c.args.followers.now c.remove.new.self c.args.number c.remove.ensures.updates.0 c.remove.ensures.entries

pub returns-in_default-clause-rings : goal.returns-in_default-clause-rings
returns-in_default-clause-rings c = subst (λ (o : Option Follower). IsDropped (seen_at c.args.rings.now) (seen_at c.args.rings.now) o) c.in_default.ensures.value (λ u. refl)

pub returns-in_default-clause-followers : goal.returns-in_default-clause-followers
returns-in_default-clause-followers c = taken_out c.args.followers.now c.remove.new.self c.args.number c.remove.ensures.updates.0 c.remove.ensures.entries
