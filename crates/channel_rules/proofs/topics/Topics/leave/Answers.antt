use Rattle.std.proofs.Common.{ap, ◌∙◌, map}
use Rattle.channel_rules.proofs.Joins.{remove-is-without, find-none, same-bytes}
use Rattle.channel_rules.specs.InForce.{joined_of}
use Rattle.channel_rules.proofs.topics.Topics.leave.Goals as goal

pub returns-clause-entries : goal.returns-clause-entries
returns-clause-entries c = ap (map joined_of) c.shift_remove-join.ensures.entries ∙ remove-is-without c.args.topic.now _ (λ k. same-bytes c.args.topic.now k) c.args.self.now.joins.entries

pub returns-clause-gone : goal.returns-clause-gone
returns-clause-gone c = find-none c.args.topic.now _ (λ k. same-bytes c.args.topic.now k) _ c.shift_remove-join.ensures.updates.1
