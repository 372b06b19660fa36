use Rattle.std.proofs.Common.{rules}
use Rattle.hook_registry.proofs.Choosing.{plain_state}
use Rattle.hook_registry.proofs.rendering.render_state.Goals as goal

pub returns-then-is_plain-clause-value : goal.returns-then-is_plain-clause-value
returns-then-is_plain-clause-value g c =
    let nothing = g.met.H.PresenceHooks.plain_adds_nothing c.args.hooks.now c.args.kind c.args.topic.now in
    search (rules, plain_state)
