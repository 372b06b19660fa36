use Rattle.std.proofs.Common.{◌≡◌}
use Rattle.std.specs.List.{list_any}
use Rattle.std.specs.BTreeSet.{contains}
use Rattle.presence_base.specs.Order.{text_cmp}
use Rattle.serve_ports.proofs.followed.Followed.has_one_of.Given as goal

abbrev pub invariant-loop-topic : goal.invariant-loop-topic
invariant-loop-topic l = list_any (contains text_cmp l.self.topics) l.topic-iterator ≡ list_any (contains text_cmp l.self.topics) l.topics.keys
