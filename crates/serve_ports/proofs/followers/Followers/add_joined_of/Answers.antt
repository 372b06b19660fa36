use Rattle.std.proofs.Common.{◌≡◌, List, true, false, ap, filter, subst, rules, ℕ}
use Rattle.channel_session.specs.Ending.{topics_named}
use Rattle.serve_ports.proofs.FollowerLemmas.{Rest, passed, picked, rest_next, rest_done}
use Rattle.serve_ports.specs.Following.{FollowsThese, is_followed}
use Rattle.serve_ports.proofs.followers.Followers.add_joined_of.Goals as goal

pub loop-topic-init : goal.loop-topic-init
loop-topic-init c =
    let it : c.into_iter-topic-iterator.result ≡ topics_named c.args.session.now = search rules in (
      (λ t k h. h),
      λ h on those.
          subst (λ (ts : List (List ℕ)). FollowsThese h (filter (is_followed c.args.topics.now) ts) c.args.token) it those,
    )

pub loop-topic-preserved-then-contains : goal.loop-topic-preserved-then-contains
loop-topic-preserved-then-contains c =
    let p = is_followed c.args.topics.now in
    let passes : p c.in-Some.topic.now ≡ true = search rules in
    rest_next c.args.self.now c.loop-topic.self c.add.new.self (filter p (topics_named c.args.session.now))
    (filter p c.loop-topic.topic-iterator) (filter p c.next.new.self) c.in-Some.topic.now c.args.token
    (picked p c.loop-topic.topic-iterator c.next.new.self c.in-Some.topic.now c.in-Some.ensures.steps passes)
    c.loop-topic.invariant c.add.ensures

pub loop-topic-preserved : goal.loop-topic-preserved
loop-topic-preserved c =
    let p = is_followed c.args.topics.now in
    let fails : p c.in-Some.topic.now ≡ false = search rules in
    subst (Rest c.args.self.now (filter p (topics_named c.args.session.now)) c.args.token c.loop-topic.self)
    (passed p c.loop-topic.topic-iterator c.next.new.self c.in-Some.topic.now c.in-Some.ensures.steps fails)
    c.loop-topic.invariant

pub returns-clause-joined : goal.returns-clause-joined
returns-clause-joined c =
    let p = is_followed c.args.topics.now in
    rest_done c.args.self.now c.loop-topic.self (filter p (topics_named c.args.session.now))
    (filter p c.loop-topic.topic-iterator) c.args.token (ap (filter p) c.in-None.ensures.steps.0) c.loop-topic.invariant
