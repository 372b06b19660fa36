use Rattle.std.proofs.Common.{sym}
use Rattle.channel_rules.proofs.Joins.{key-is, same-bytes}
use Rattle.channel_rules.proofs.topics.Topics.kept.Goals as goal

pub returns-in-Some : goal.returns-in-Some
returns-in-Some c = key-is c.args.topic.now _ (λ k. same-bytes c.args.topic.now k) c.args.self.now.joins.entries c.in-Some.kept.now (sym c.in-Some.ensures.key)
