use Rattle.channel_session.specs.Ending.{topics_named}
use Rattle.serve_ports.proofs.FollowLemmas.{Rest}
use Rattle.serve_ports.proofs.followed.Followed.add_joined.Given as goal

abbrev pub invariant-loop-topic : goal.invariant-loop-topic
invariant-loop-topic l = Rest l.fn.self (topics_named l.session) l.self l.topic-iterator
