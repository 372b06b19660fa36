use Rattle.std.proofs.Common.{◌-◌, length}
use Rattle.channel_rules.specs.InForce.{joined_in}
use Rattle.channel_session.proofs.delivering.+deliver_from.Given as goal

-- the topics that are left
abbrev pub decreases-deliver_from : goal.decreases-deliver_from
decreases-deliver_from g l = length (joined_in l.topics.now) - l.index
