use Rattle.std.proofs.Common.{rules, refl}
use Rattle.channel_rules.proofs.Once.{once_heeding, heeds_seen}
use Rattle.channel_rules.proofs.Answered.{seen_same}
use Rattle.channel_session.proofs.joins.subscribe_with.Goals as goal

pub returns : goal.returns
returns g c = λ before kind s. once_heeding _ _ _ _ _ _ _ _ (rw (seen_same c.call-answer.result) at c.call-answer.ensures) refl (c.subscribed.ensures.gives _ (search rules) before kind s) (heeds_seen _ _ _ c.subscribed.ensures.heeds)
