use Rattle.std.proofs.Common.{rules}
use Rattle.serde_json.specs.declared.value.Value.TheVariants.{Object}
use Rattle.serde_json.specs.View.{view, members_view}
use Rattle.serde_json.proofs.Views.{view-Object}
use Rattle.hook_registry.proofs.Choosing.{Held, held_first, held_next, held_last, held_whole}
use Rattle.hook_registry.proofs.rendering.presences_value.Goals as goal

pub loop-key-init : goal.loop-key-init
loop-key-init g c =
    let held = held_first (g.H.PresenceHooks.fetched c.args.hooks.now c.args.kind c.args.topic.now) c.into_iter-key-iterator.result (members_view c.new-members.result.entries) c.args.presences.now (search rules) (search rules) c.requires.keys c.keys_rise.ensures in
    record { keys = held.keys; rises = held.rises; leads = held.leads }

pub loop-key-preserved : goal.loop-key-preserved
loop-key-preserved g c =
    let before : Held (g.H.PresenceHooks.fetched c.args.hooks.now c.args.kind c.args.topic.now) c.loop-key.key-iterator (members_view c.loop-key.members.entries) c.args.presences.now =
    record { keys = c.loop-key.invariant.keys; rises = c.loop-key.invariant.rises; leads = c.loop-key.invariant.leads } in
    let held = held_next (g.H.PresenceHooks.fetched c.args.hooks.now c.args.kind c.args.topic.now) c.loop-key.key-iterator (members_view c.loop-key.members.entries) c.args.presences.now before
    c.in-Some.key.now c.in-Some.metas.now c.next.new.self (search rules)
    c.in_ok-extra.extra c.in_ok-value.ensures.limits c.as_str.result.now (search rules) c.in_ok-extra.ensures
    c.as_slice.result.now (search rules) (view c.in_ok-value.value) c.in_ok-value.ensures.value
    c.as_str-in-loop-key.result.now (search rules) (members_view c.put_member.new.members.entries) c.in_ok-put_member.ensures in
    record { keys = held.keys; rises = held.rises; leads = held.leads }

pub returns-clause-value : goal.returns-clause-value
returns-clause-value g c =
    let before : Held (g.H.PresenceHooks.fetched c.args.hooks.now c.args.kind c.args.topic.now) c.loop-key.key-iterator (members_view c.loop-key.members.entries) c.args.presences.now =
    record { keys = c.loop-key.invariant.keys; rises = c.loop-key.invariant.rises; leads = c.loop-key.invariant.leads } in
    held_last (g.H.PresenceHooks.fetched c.args.hooks.now c.args.kind c.args.topic.now) c.loop-key.key-iterator (members_view c.loop-key.members.entries) c.args.presences.now before (search rules)
    (view (Object c.loop-key.members)) (view-Object c.loop-key.members)

pub returns-clause-whole : goal.returns-clause-whole
returns-clause-whole g c =
    let before : Held (g.H.PresenceHooks.fetched c.args.hooks.now c.args.kind c.args.topic.now) c.loop-key.key-iterator (members_view c.loop-key.members.entries) c.args.presences.now =
    record { keys = c.loop-key.invariant.keys; rises = c.loop-key.invariant.rises; leads = c.loop-key.invariant.leads } in
    held_whole (g.H.PresenceHooks.fetched c.args.hooks.now c.args.kind c.args.topic.now) c.loop-key.key-iterator (members_view c.loop-key.members.entries) c.args.presences.now before (search rules)
    (view (Object c.loop-key.members)) (view-Object c.loop-key.members) c.keys_rise.ensures c.requires.whole
