use Rattle.channel_rules.proofs.Joins.{joined-last, same-bytes}
use Rattle.channel_rules.proofs.topics.Topics.join.Goals as goal

pub returns : goal.returns
returns c = joined-last _ same-bytes c.args.self.now.joins c.args.topic c.args.join _ c.insert-none.result c.requires.absent (c.insert-none.ensures.succeeds c.requires.room) c.insert-none.ensures.entries
