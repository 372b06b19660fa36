use Rattle.std.proofs.Common.{refl}
use Rattle.channel_rules.proofs.laws.limit_of_topics.Goals as goal

pub returns : goal.returns
returns c = refl
