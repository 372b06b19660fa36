use Rattle.channel_session.specs.Ending.{topics_named}
use Rattle.serve_ports.proofs.FollowLemmas.{rest_next}
use Rattle.serve_ports.proofs.followed.Followed.add_joined.Goals as goal

pub loop-topic-preserved : goal.loop-topic-preserved
loop-topic-preserved c =
    rest_next c.args.self.now c.loop-topic.self c.add.new.self (topics_named c.args.session.now) c.loop-topic.topic-iterator c.next.new.self c.in-Some.topic.now
    c.in-Some.ensures.steps c.loop-topic.invariant c.add.ensures
