use Rattle.channel_rules.proofs.Saying.{ran_so}
use Rattle.channel_session.proofs.dispatch.topic_event.Goals as goal

pub returns-in-Ping : goal.returns-in-Ping
returns-in-Ping g c = λ s. rw c.in-Ping.is (ran_so (g.H.PresenceHooks.fetched c.args.hooks.now) (g.H.PresenceHooks.plain c.args.hooks.now) _ _ _ _ _ c.ping.ensures s)

pub returns-in-Shout : goal.returns-in-Shout
returns-in-Shout g c = λ s. rw c.in-Shout.is (ran_so (g.H.PresenceHooks.fetched c.args.hooks.now) (g.H.PresenceHooks.plain c.args.hooks.now) _ _ _ _ _ c.shout.ensures s)

pub returns-in-Track : goal.returns-in-Track
returns-in-Track g c = λ s. rw c.in-Track.is (ran_so (g.H.PresenceHooks.fetched c.args.hooks.now) (g.H.PresenceHooks.plain c.args.hooks.now) _ _ _ _ _ c.track.ensures s)

pub returns-in-Update : goal.returns-in-Update
returns-in-Update g c = λ s. rw c.in-Update.is (ran_so (g.H.PresenceHooks.fetched c.args.hooks.now) (g.H.PresenceHooks.plain c.args.hooks.now) _ _ _ _ _ c.update.ensures s)

pub returns-in-Untrack : goal.returns-in-Untrack
returns-in-Untrack g c = λ s. rw c.in-Untrack.is (ran_so (g.H.PresenceHooks.fetched c.args.hooks.now) (g.H.PresenceHooks.plain c.args.hooks.now) _ _ _ _ _ c.untrack.ensures s)

pub returns-in-Unknown : goal.returns-in-Unknown
returns-in-Unknown g c = λ s. rw c.in-Unknown.is (ran_so (g.H.PresenceHooks.fetched c.args.hooks.now) (g.H.PresenceHooks.plain c.args.hooks.now) _ _ _ _ _ c.unknown.ensures s)
