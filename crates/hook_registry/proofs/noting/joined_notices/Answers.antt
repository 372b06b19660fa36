use Rattle.std.proofs.Common.{rules, drop, drop_of_length-le}
use Rattle.hook_registry.proofs.Noticing.{noticed_all}
use Rattle.hook_registry.proofs.noting.joined_notices.Goals as goal

pub returns : goal.returns
returns g c = noticed_all (g.H.PresenceHooks.joined c.args.hooks.now c.args.kind c.args.topic.now) c.args.rows.now (drop c.loop-dot.dot-index c.args.rows.now) c.loop-dot.notices.items (drop_of_length-le c.args.rows.now (search rules)) c.loop-dot.invariant
