use Rattle.std.proofs.Common.{refl}
use Rattle.channel_rules.proofs.Once.{once}
use Rattle.channel_session.proofs.events.untrack_asked.Goals as goal

pub returns-in-Some : goal.returns-in-Some
returns-in-Some g c = λ s. rw c.in-Some.is (once _ _ _ _ _ _ _ _ c.call-answer.ensures refl refl (c.untracked.ensures s))
