use Rattle.channel_session.specs.Ending.{topics_named}
use Rattle.serve_ports.proofs.FollowerLemmas.{Rest}
use Rattle.serve_ports.proofs.followers.Followers.add_joined.Given as goal

abbrev pub invariant-loop-topic : goal.invariant-loop-topic
invariant-loop-topic l = Rest l.fn.self (topics_named l.session) l.token l.self l.topic-iterator
