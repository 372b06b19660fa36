use Rattle.channel_rules.proofs.Joins.{find-copied, same-bytes}
use Rattle.channel_rules.proofs.topics.Topics.find.Goals as goal

pub returns : goal.returns
returns c = find-copied c.args.topic.now _ (λ k. same-bytes c.args.topic.now k) c.get.result c.args.self.now.joins.entries c.get.ensures.value
