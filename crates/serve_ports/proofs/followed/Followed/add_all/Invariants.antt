use Rattle.std.proofs.Common.{◌||◌}
use Rattle.serve_ports.proofs.FollowLemmas.{Rest}
use Rattle.serve_ports.proofs.followed.Followed.add_all.Given as goal

abbrev pub invariant-loop-topic : goal.invariant-loop-topic
invariant-loop-topic l = Rest (record { topics = l.fn.self.topics; has_all = l.fn.self.has_all || l.fn.others.has_all }) l.fn.others.topics.keys l.self l.topic-iterator
