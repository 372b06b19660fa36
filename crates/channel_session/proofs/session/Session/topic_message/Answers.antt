use Rattle.std.proofs.Common.{◌≡◌, None, rules}
use Rattle.channel_rules.specs.Rules.{join_at}
use Rattle.channel_session.proofs.Acted.{unmatched_acted}
use Rattle.channel_session.proofs.session.Session.topic_message.Goals as goal

pub returns-in-None : goal.returns-in-None
returns-in-None g c =
    let none : join_at c.args.self.now c.args.message.now ≡ None = search rules in
    unmatched_acted (g.H.PresenceHooks.fetched c.args.hooks.now) (g.H.PresenceHooks.plain c.args.hooks.now) _ c.args.self.now c.args.message.now _ _ c.args.event _ none c.unmatched.ensures
