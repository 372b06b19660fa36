use Rattle.std.proofs.Common.{◌≡◌, length, ap, ◌∙◌, rules}
use Rattle.channel_rules.specs.InForce.{InForce, joined_in}
use Rattle.channel_rules.specs.Rules.{join_ref_of}
use Rattle.channel_session.proofs.Acted.{join_ran, join_script}
use Rattle.channel_session.proofs.session.Session.run_join.Goals as goal

pub returns-in-Ok-clause-ran : goal.returns-in-Ok-clause-ran
returns-in-Ok-clause-ran g c =
    let pid : c.self.inside.pid ≡ c.args.self.now.pid = ap (λ (x : InForce). x.pid) c.self.view_is in
    let failed : c.self.inside.failed ≡ c.args.self.now.failed = ap (λ (x : InForce). x.failed) c.self.view_is in
    let cut_short : c.self.inside.cut_short ≡ c.args.self.now.cut_short = ap (λ (x : InForce). x.cut_short) c.self.view_is in
    let held : joined_in c.make_room.new.self ≡ c.args.self.now.joined = c.make_room.ensures.entries ∙ ap (λ (x : InForce). x.joined) c.self.view_is in
    let topic : c.in_ok-topic.topic ≡ c.args.message.now.topic = search rules in
    let ref : c.in_ok-join_ref.join_ref ≡ join_ref_of c.args.message.now = search rules in
    join_ran g.P.Port.step c.args.self.now c.args.message.now _ c.args.kind _ _ pid (c.len-count.ensures ∙ ap length held) _ _ _ _ _ _ _ (record { pid = pid; failed = failed; cut_short = cut_short }) topic ref (rw held at c.enter.ensures) (c.in-Ok.ensures c.args.kind c.args.self.now)

pub returns-in-Err-clause-ran : goal.returns-in-Err-clause-ran
returns-in-Err-clause-ran g c =
    let pid : c.self.inside.pid ≡ c.args.self.now.pid = ap (λ (x : InForce). x.pid) c.self.view_is in
    let held : joined_in c.make_room.new.self ≡ c.args.self.now.joined = c.make_room.ensures.entries ∙ ap (λ (x : InForce). x.joined) c.self.view_is in
    join_script g.P.Port.step c.args.self.now c.args.message.now _ c.args.kind _ _ pid (c.len-count.ensures ∙ ap length held) _ _ _ (c.in-Err.ensures c.args.kind c.args.self.now)
