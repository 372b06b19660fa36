use Rattle.std.proofs.Common.{refl}
use Rattle.channel_rules.proofs.Once.{once}
use Rattle.channel_rules.proofs.Answered.{seen_same}
use Rattle.channel_session.proofs.events.update_asked.Goals as goal

pub returns-in-Wants : goal.returns-in-Wants
returns-in-Wants g c = λ s. rw c.in-Wants.is (once _ _ _ _ _ _ _ _ (rw (seen_same c.call-answer.result) at c.call-answer.ensures) refl refl (c.updated.ensures s))
