use Rattle.std.proofs.Common.{◌≡◌, refl, ap, ◌∙◌}
use Rattle.channel_rules.specs.InForce.{InForce, joined_of, joined_in, without_topic}
use Rattle.channel_session.proofs.Acted.{left_so, leave_script}
use Rattle.channel_session.proofs.session.Session.run_leave.Goals as goal

pub returns-in-Ok-clause-ran : goal.returns-in-Ok-clause-ran
returns-in-Ok-clause-ran g c =
    let pid : c.self.inside.pid ≡ c.args.self.now.pid = ap (λ (x : InForce). x.pid) c.self.view_is in
    let failed : c.self.inside.failed ≡ c.args.self.now.failed = ap (λ (x : InForce). x.failed) c.self.view_is in
    let cut_short : c.self.inside.cut_short ≡ c.args.self.now.cut_short = ap (λ (x : InForce). x.cut_short) c.self.view_is in
    let held : joined_in c.leave-in-Ok.new.self ≡ without_topic c.args.message.now.topic c.args.self.now.joined = c.leave-in-Ok.ensures.entries ∙ ap (λ (x : InForce). without_topic c.args.message.now.topic x.joined) c.self.view_is in
    leave_script g.P.Port.step c.args.self.now c.args.message.now _ pid (joined_of (c.args.message.now.topic, c.args.join.now)) _ _ _
    (c.in-Ok.ensures c.args.self.now _ (left_so c.args.self.now _ c.args.message.now.topic (record { pid = pid; failed = failed; cut_short = cut_short }) held))

pub returns-in-Err-clause-ran : goal.returns-in-Err-clause-ran
returns-in-Err-clause-ran g c =
    let pid : c.self.inside.pid ≡ c.args.self.now.pid = ap (λ (x : InForce). x.pid) c.self.view_is in
    leave_script g.P.Port.step c.args.self.now c.args.message.now _ pid (joined_of (c.args.message.now.topic, c.args.join.now)) _ _ _ (c.in-Err.ensures c.args.self.now _ refl)
