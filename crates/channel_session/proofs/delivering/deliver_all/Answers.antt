use Rattle.std.proofs.Common.{◌≡◌, [], drop, refl, ap, rules}
use Rattle.channel_rules.specs.InForce.{InForce, joined_in}
use Rattle.channel_rules.specs.Said.{Worded, Noted}
use Rattle.channel_session.specs.Carrying.{Carries}
use Rattle.channel_session.proofs.Delivered.{delivered_ok, delivered_err}
use Rattle.channel_session.proofs.delivering.deliver_all.Goals as goal

pub returns-in-Ok : goal.returns-in-Ok
returns-in-Ok g c =
    let pid : c.session.inside.pid ≡ c.args.session.now.pid = ap (λ (x : InForce). x.pid) c.session.view_is in
    let held : drop 0 (joined_in c.session.inside.topics) ≡ c.args.session.now.joined = search rules in
    let nothing : Carries (Worded (g.H.PresenceHooks.fetched c.args.hooks.now) (g.H.PresenceHooks.plain c.args.hooks.now)) (Noted (g.H.PresenceHooks.joined c.args.hooks.now) (g.H.PresenceHooks.left c.args.hooks.now) (g.H.PresenceHooks.quiet c.args.hooks.now)) [] (record { texts = c.new.result; notices = c.new-2.result }) =
    record { texts = ([], tt, search rules); notices = search rules } in
    delivered_ok (Worded (g.H.PresenceHooks.fetched c.args.hooks.now) (g.H.PresenceHooks.plain c.args.hooks.now)) (Noted (g.H.PresenceHooks.joined c.args.hooks.now) (g.H.PresenceHooks.left c.args.hooks.now) (g.H.PresenceHooks.quiet c.args.hooks.now)) _ c.args.max c.args.session.now _ _ _ _ _ held (rw pid at (c.in-Ok.ensures [] c.args.session.now nothing)) refl

pub returns-in-Err : goal.returns-in-Err
returns-in-Err g c =
    let pid : c.session.inside.pid ≡ c.args.session.now.pid = ap (λ (x : InForce). x.pid) c.session.view_is in
    let held : drop 0 (joined_in c.session.inside.topics) ≡ c.args.session.now.joined = search rules in
    let nothing : Carries (Worded (g.H.PresenceHooks.fetched c.args.hooks.now) (g.H.PresenceHooks.plain c.args.hooks.now)) (Noted (g.H.PresenceHooks.joined c.args.hooks.now) (g.H.PresenceHooks.left c.args.hooks.now) (g.H.PresenceHooks.quiet c.args.hooks.now)) [] (record { texts = c.new.result; notices = c.new-2.result }) =
    record { texts = ([], tt, search rules); notices = search rules } in
    delivered_err (Worded (g.H.PresenceHooks.fetched c.args.hooks.now) (g.H.PresenceHooks.plain c.args.hooks.now)) (Noted (g.H.PresenceHooks.joined c.args.hooks.now) (g.H.PresenceHooks.left c.args.hooks.now) (g.H.PresenceHooks.quiet c.args.hooks.now)) _ c.args.max c.args.session.now _ _ _ _ _ _ held (rw pid at (c.in-Err.ensures [] c.args.session.now nothing)) c.leave_behind.ensures.fault (search rules)
