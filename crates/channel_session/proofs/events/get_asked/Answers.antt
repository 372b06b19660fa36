use Rattle.std.proofs.Common.{refl}
use Rattle.channel_rules.proofs.Once.{once}
use Rattle.channel_rules.proofs.Saying.{replied_acted}
use Rattle.channel_session.proofs.events.get_asked.Goals as goal

pub returns-in-Some : goal.returns-in-Some
returns-in-Some g c = λ s. rw c.in-Some.is (record { said = c.told_got.ensures.said; worded = c.told_got.ensures.worded; acts = once _ _ _ _ _ _ _ _ c.call-answer.ensures refl refl (c.told_got.ensures.gives s) })

pub returns-in-None : goal.returns-in-None
returns-in-None g c = λ s. rw c.in-None.is (replied_acted (g.H.PresenceHooks.fetched c.args.hooks.now) (g.H.PresenceHooks.plain c.args.hooks.now) _ _ s _ _ c.bad_payload.ensures)
