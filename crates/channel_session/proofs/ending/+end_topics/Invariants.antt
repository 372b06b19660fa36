use Rattle.std.proofs.Common.{◌-◌, length}
use Rattle.channel_rules.specs.InForce.{joined_in}
use Rattle.channel_session.proofs.ending.+end_topics.Given as goal

-- the topics that are left
abbrev pub decreases-end_topics : goal.decreases-end_topics
decreases-end_topics g l = length (joined_in l.topics.now) - l.index
