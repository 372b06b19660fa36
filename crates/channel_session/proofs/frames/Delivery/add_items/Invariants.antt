use Rattle.std.proofs.Common.{List, ◌++◌, map, drop}
use Rattle.channel_rules.specs.InForce.{joined_of}
use Rattle.channel_rules.specs.Said.{Said, told, Worded, Noted}
use Rattle.channel_session.specs.Carrying.{Carries}
use Rattle.channel_session.proofs.Carried.{Told}
use Rattle.channel_session.proofs.frames.Delivery.add_items.Given as goal

-- what was told, followed by what is left
abbrev pub invariant-loop-item : goal.invariant-loop-item
invariant-loop-item g l =
    (before : List Said) → Carries (Worded (g.H.PresenceHooks.fetched l.hooks) (g.H.PresenceHooks.plain l.hooks)) (Noted (g.H.PresenceHooks.joined l.hooks) (g.H.PresenceHooks.left l.hooks) (g.H.PresenceHooks.quiet l.hooks)) before l.fn.self
    → Told (Worded (g.H.PresenceHooks.fetched l.hooks) (g.H.PresenceHooks.plain l.hooks)) (Noted (g.H.PresenceHooks.joined l.hooks) (g.H.PresenceHooks.left l.hooks) (g.H.PresenceHooks.quiet l.hooks))
    (before ++ map (told (joined_of (l.topic, l.join))) l.items) (map (told (joined_of (l.topic, l.join))) (drop l.item-index l.items)) l.delivery
