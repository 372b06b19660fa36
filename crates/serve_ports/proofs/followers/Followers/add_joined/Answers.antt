use Rattle.std.proofs.Common.{◌≡◌, ℕ, List, subst, rules}
use Rattle.channel_session.specs.Ending.{topics_named}
use Rattle.serve_ports.proofs.FollowerLemmas.{rest_next, rest_done}
use Rattle.serve_ports.specs.Following.{FollowsThese}
use Rattle.serve_ports.proofs.followers.Followers.add_joined.Goals as goal

pub loop-topic-init : goal.loop-topic-init
loop-topic-init c =
    let it : c.into_iter-topic-iterator.result ≡ topics_named c.args.session.now = search rules in
    ((λ t k h. h), λ h on those. subst (λ (ts : List (List ℕ)). FollowsThese h ts c.args.token) it those)

pub loop-topic-preserved : goal.loop-topic-preserved
loop-topic-preserved c =
    rest_next c.args.self.now c.loop-topic.self c.add.new.self (topics_named c.args.session.now) c.loop-topic.topic-iterator c.next.new.self c.in-Some.topic.now
    c.args.token c.in-Some.ensures.steps c.loop-topic.invariant c.add.ensures

pub returns-clause-joined : goal.returns-clause-joined
returns-clause-joined c =
    rest_done c.args.self.now c.loop-topic.self (topics_named c.args.session.now) c.loop-topic.topic-iterator c.args.token c.in-None.ensures.steps.0 c.loop-topic.invariant
