use Rattle.std.proofs.Common.{[], ◌∷◌, rules}
use Rattle.channel_rules.specs.Said.{listed, Worded}
use Rattle.channel_rules.proofs.Saying.{replied_so}
use Rattle.channel_session.proofs.Plainly.{made_after}
use Rattle.channel_session.proofs.events.told_rows.Goals as goal

pub returns-in-Ok : goal.returns-in-Ok
returns-in-Ok g c =
    made_after (Worded (g.H.PresenceHooks.fetched c.args.hooks.now) (g.H.PresenceHooks.plain c.args.hooks.now)) _ _
    (listed c.args.incoming.join.now.kind c.args.incoming.join.now.join_ref c.args.incoming.message.now c.in-Ok.rows ∷ []) c.rows_reply.result c.spoiling.result
    c.rows_reply.ensures (λ s. search rules) (search rules) c.spoiling.ensures.ok c.spoiling.ensures.err

pub returns-in-Err : goal.returns-in-Err
returns-in-Err g c = replied_so (g.H.PresenceHooks.fetched c.args.hooks.now) (g.H.PresenceHooks.plain c.args.hooks.now) _ _ _ (search rules)
