use Rattle.channel_rules.specs.InForce.{joined_of}
use Rattle.channel_session.proofs.Ended.{leaves_so}
use Rattle.channel_session.proofs.joins.leave.Goals as goal

pub returns-in-Ok : goal.returns-in-Ok
returns-in-Ok g c = λ s after is. leaves_so _ (joined_of (c.args.message.now.topic, c.args.join.now)) c.args.message.now s after _ _ _ _ c.in-Ok.ensures is (c.in_ok-reply.ensures after)
