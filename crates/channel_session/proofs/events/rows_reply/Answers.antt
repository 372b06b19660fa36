use Rattle.std.proofs.Common.{rules}
use Rattle.channel_session.proofs.Plainly.{rows_plainly}
use Rattle.channel_session.proofs.events.rows_reply.Goals as goal

pub returns-then-is_plain : goal.returns-then-is_plain
returns-then-is_plain g c = (
  rows_plainly (g.H.PresenceHooks.fetched c.args.hooks.now) (g.H.PresenceHooks.plain c.args.hooks.now) c.args.incoming.join.now.kind c.args.incoming.join.now.join_ref c.args.incoming.message.now c.args.rows
      (λ k. g.met.H.PresenceHooks.plain_adds_nothing c.args.hooks.now c.args.incoming.join.now.kind c.args.incoming.message.now.topic k (search rules)) _ c.in_ok-reply.ensures,
  tt,
)
