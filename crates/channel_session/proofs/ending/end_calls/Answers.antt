use Rattle.std.proofs.Common.{◌≡◌, None, Some, Err, refl, sym, ap, ◌∙◌, rules}
use Rattle.channel_rules.specs.InForce.{InForce, joined_in}
use Rattle.channel_session.specs.Ending.{left_with}
use Rattle.channel_session.proofs.Endings.{nothing_cut_short, cut_short_gone, cut_short_kept}
use Rattle.channel_session.proofs.ending.end_calls.Goals as goal

pub returns-in-None-clause-played : goal.returns-in-None-clause-played
returns-in-None-clause-played g c =
    let none : c.args.session.now.cut_short ≡ None = search rules in
    nothing_cut_short g.P.Port.step c.args.session.now _ _ _ _ none c.end_joined.ensures.kept (c.end_joined.ensures.played (left_with c.args.session.now None))

pub returns-in-Ok-clause-played : goal.returns-in-Ok-clause-played
returns-in-Ok-clause-played g c =
    let pid : c.session.inside.pid ≡ c.args.session.now.pid = ap (λ (x : InForce). x.pid) c.session.view_is in
    let failed : c.session.inside.failed ≡ c.args.session.now.failed = ap (λ (x : InForce). x.failed) c.session.view_is in
    let joined : joined_in c.session.inside.topics ≡ c.args.session.now.joined = ap (λ (x : InForce). x.joined) c.session.view_is in
    let inner : c.session.inside.cut_short ≡ Some c.in-Some.topic = search rules in
    let named : c.args.session.now.cut_short ≡ Some c.in-Some.topic = sym (ap (λ (x : InForce). x.cut_short) c.session.view_is) ∙ inner in
    cut_short_gone g.P.Port.step c.args.session.now _ named _ pid _ pid joined _ _ _ _ _ _ c.in-Ok.ensures failed refl c.end_joined-in-Ok.ensures.kept (c.end_joined-in-Ok.ensures.played (left_with c.args.session.now None))

pub returns-in-Err-clause-played : goal.returns-in-Err-clause-played
returns-in-Err-clause-played g c =
    let s = c.args.session.now in
    let pid : c.session.inside.pid ≡ s.pid = ap (λ (x : InForce). x.pid) c.session.view_is in
    let inner : c.session.inside.cut_short ≡ Some c.in-Some.topic = search rules in
    let named : s.cut_short ≡ Some c.in-Some.topic = sym (ap (λ (x : InForce). x.cut_short) c.session.view_is) ∙ inner in
    let later = c.end_joined-later.new.session in
    cut_short_kept g.P.Port.step s _ named _ pid s refl refl _ later _ _ _ _ c.in-Err.ensures
    (ap (λ (x : InForce). x.pid) c.session-in-Err.view_is ∙ c.end_joined-later.ensures.kept.pid) refl
    (ap (λ (x : InForce). x.joined) c.session-in-Err.view_is)
    (ap (λ (x : InForce). x.cut_short) c.session-in-Err.view_is ∙ c.end_joined-later.ensures.kept.cut_short)
    (c.end_joined-later.ensures.played (λ js b. left_with s (Some c.in-Some.topic) js (Err c.in-Err.refusal)))
