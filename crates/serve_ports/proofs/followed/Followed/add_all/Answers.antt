use Rattle.std.proofs.Common.{◌||◌}
use Rattle.serve_ports.proofs.FollowLemmas.{rest_next}
use Rattle.serve_ports.proofs.followed.Followed.add_all.Goals as goal

pub loop-topic-preserved : goal.loop-topic-preserved
loop-topic-preserved c =
    rest_next (record { topics = c.args.self.now.topics; has_all = c.args.self.now.has_all || c.args.others.has_all }) c.loop-topic.self c.put.new.self
    c.args.others.topics.keys c.loop-topic.topic-iterator c.next.new.self c.in-Some.topic c.in-Some.ensures.steps c.loop-topic.invariant c.put.ensures
