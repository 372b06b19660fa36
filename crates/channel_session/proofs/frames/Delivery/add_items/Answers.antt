use Rattle.std.proofs.Common.{◌≡◌, ◌+◌, ◌∷◌, [], map, drop, ap, rules, drop_of_length-le}
use Rattle.presence_journal.proofs.Walking.{drop_next}
use Rattle.channel_rules.specs.InForce.{joined_of}
use Rattle.channel_rules.specs.Said.{told, Worded, Noted}
use Rattle.channel_session.proofs.Carried.{told_next, told_last}
use Rattle.channel_session.proofs.frames.Delivery.add_items.Goals as goal

pub loop-item-preserved : goal.loop-item-preserved
loop-item-preserved g c = λ before h.
    let here : drop c.loop-item.item-index c.args.items.now ≡ c.item-item.result ∷ drop (c.loop-item.item-index + 1) c.args.items.now = drop_next c.args.items.now c.loop-item.item-index c.item-item.result c.loop-item-test.true c.item-item.is in
    told_next (Worded (g.H.PresenceHooks.fetched c.args.hooks.now) (g.H.PresenceHooks.plain c.args.hooks.now)) (Noted (g.H.PresenceHooks.joined c.args.hooks.now) (g.H.PresenceHooks.left c.args.hooks.now) (g.H.PresenceHooks.quiet c.args.hooks.now)) _ _ _ _ _ _
    (c.loop-item.invariant before h) (ap (map (told (joined_of (c.args.topic.now, c.args.join.now)))) here) c.in_ok-delivery.ensures

pub returns : goal.returns
returns g c = λ before h.
    let done : drop c.loop-item.item-index c.args.items.now ≡ [] = drop_of_length-le c.args.items.now (search rules) in
    told_last (Worded (g.H.PresenceHooks.fetched c.args.hooks.now) (g.H.PresenceHooks.plain c.args.hooks.now)) (Noted (g.H.PresenceHooks.joined c.args.hooks.now) (g.H.PresenceHooks.left c.args.hooks.now) (g.H.PresenceHooks.quiet c.args.hooks.now)) _ _ _
    (c.loop-item.invariant before h) (ap (map (told (joined_of (c.args.topic.now, c.args.join.now)))) done)
