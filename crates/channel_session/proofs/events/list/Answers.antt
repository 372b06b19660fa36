use Rattle.std.proofs.Common.{refl}
use Rattle.channel_rules.proofs.Once.{once}
use Rattle.channel_rules.proofs.Answered.{seen_same}
use Rattle.channel_session.proofs.events.list.Goals as goal

pub returns : goal.returns
returns g c = λ s. record { said = c.told_rows.ensures.said; worded = c.told_rows.ensures.worded; acts = once _ _ _ _ _ _ _ _ (rw (seen_same c.call-answer.result) at c.call-answer.ensures) refl refl (c.told_rows.ensures.gives s) }
