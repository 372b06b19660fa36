use Rattle.std.proofs.Common.{◌≡◌}
use Rattle.channel_session.specs.Ending.{topics_named}
use Rattle.serve_ports.specs.Following.{names_one_of}
use Rattle.serve_ports.proofs.inbox.follows.Given as goal

abbrev pub invariant-loop-topic : goal.invariant-loop-topic
invariant-loop-topic l = names_one_of l.topic-iterator l.topics ≡ names_one_of (topics_named l.session) l.topics
