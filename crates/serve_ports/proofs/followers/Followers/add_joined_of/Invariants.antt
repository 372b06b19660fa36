use Rattle.std.proofs.Common.{filter}
use Rattle.channel_session.specs.Ending.{topics_named}
use Rattle.serve_ports.proofs.FollowerLemmas.{Rest}
use Rattle.serve_ports.specs.Following.{is_followed}
use Rattle.serve_ports.proofs.followers.Followers.add_joined_of.Given as goal

abbrev pub invariant-loop-topic : goal.invariant-loop-topic
invariant-loop-topic l =
    Rest l.fn.self (filter (is_followed l.topics) (topics_named l.session)) l.token l.self
    (filter (is_followed l.topics) l.topic-iterator)
