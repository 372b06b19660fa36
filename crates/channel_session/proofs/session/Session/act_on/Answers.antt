use Rattle.channel_session.proofs.Acted.{heartbeat_acted, no_route_acted, join_acted, leave_acted}
use Rattle.channel_session.proofs.session.Session.act_on.Goals as goal

pub returns-then-case-clause-ran : goal.returns-then-case-clause-ran
returns-then-case-clause-ran g c = heartbeat_acted (g.H.PresenceHooks.fetched c.args.hooks.now) (g.H.PresenceHooks.plain c.args.hooks.now) _ c.args.self.now c.args.message.now _ _ c.args.case.phoenix c.args.case.route c.args.case.event c.in-Heartbeat.is c.if-case.true c.heartbeat.ensures

pub returns-in-Some-clause-ran : goal.returns-in-Some-clause-ran
returns-in-Some-clause-ran g c = join_acted (g.H.PresenceHooks.fetched c.args.hooks.now) (g.H.PresenceHooks.plain c.args.hooks.now) _ c.args.self.now c.args.message.now _ _ c.args.case.phoenix c.args.case.route c.args.case.event c.in-Some.kind _ _ c.in-Join.is c.in-Some.is c.run_any_join.ensures.ran

pub returns-in-None-clause-ran : goal.returns-in-None-clause-ran
returns-in-None-clause-ran g c = no_route_acted (g.H.PresenceHooks.fetched c.args.hooks.now) (g.H.PresenceHooks.plain c.args.hooks.now) _ c.args.self.now c.args.message.now _ _ c.args.case.phoenix c.args.case.route c.args.case.event c.in-Join.is c.in-None.is c.unmatched.ensures

pub returns-in-Leave-clause-ran : goal.returns-in-Leave-clause-ran
returns-in-Leave-clause-ran g c = leave_acted (g.H.PresenceHooks.fetched c.args.hooks.now) (g.H.PresenceHooks.plain c.args.hooks.now) _ c.args.self.now c.args.message.now _ _ c.args.case.phoenix c.args.case.route c.args.case.event _ _ c.in-Leave.is c.run_any_leave.ensures.ran
