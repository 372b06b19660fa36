use Rattle.std.proofs.Common.{◌==◌, ℕ, Bool, false, Ok, refl, sym, ap, subst}
use Rattle.std.proofs.lemmas.Bool.{ne_eqb}
use Rattle.channel_rules.proofs.Answered.{can_tell, told_so, refused_so, passed_so}
use Rattle.channel_rules.specs.Asks.{Ask, Answer}
use Rattle.channel_rules.specs.declared.question.Told.TheVariants as told
use Rattle.serve_connections.specs.Sparing.{Spares, SparesWaits}
use Rattle.serve_connections.proofs.Sparings.{others_pass}
use Rattle.serve_connections.proofs.sparing.SparingPortPort.call.Goals as goal

pub told_to-requires : goal.told_to-requires
told_to-requires g c = can_tell _ _ c.in-Take.ensures (told.Items c.in-Ok.items) _ refl

pub told_to-requires-then-self-eq0 : goal.told_to-requires-then-self-eq0
told_to-requires-then-self-eq0 g c = can_tell _ _ c.in-Waits.ensures (told.Waits false) _ refl

pub returns-in-Ok : goal.returns-in-Ok
returns-in-Ok g c =
    let old = c.args.self.now in
    let new = c.take.new.self in
    let S : (q : Ask) → Answer q → Type 0 = λ q a. Spares (g.P.Port.step c.args.pid) (old.port.now, old.room) q a (new.port.now, new.room) in
    (c.take.ensures.same_port, told_so _ _ c.in-Take.ensures S (told.Items c.in-Ok.items) _ _ refl c.told_to.ensures c.in-Ok.ensures.taken)

pub returns-in-Err : goal.returns-in-Err
returns-in-Err g c =
    let old = c.args.self.now in
    let new = c.take.new.self in
    let S : (q : Ask) → Answer q → Type 0 = λ q a. Spares (g.P.Port.step c.args.pid) (old.port.now, old.room) q a (new.port.now, new.room) in
    (c.take.ensures.same_port, refused_so _ _ c.in-Take.ensures S c.in-Err.refusal c.in-Err.ensures.taken)

pub returns-then-self-eq0 : goal.returns-then-self-eq0
returns-then-self-eq0 g c =
    let old = c.args.self.now in
    let step = g.P.Port.step c.args.pid in
    let w = c.in-Waits.field-0 in
    let S : (q : Ask) → Answer q → Type 0 = λ q a. Spares step (old.port.now, old.room) q a (old.port.now, old.room) in
    let none = subst (λ (b : Bool). SparesWaits step b w.topic.now w.sub old.port.now (Ok false) old.port.now) (ap (λ (n : ℕ). n == 0) (sym c.if-self-eq0.true)) (refl, refl) in
    (refl, told_so _ _ c.in-Waits.ensures S (told.Waits false) _ _ refl c.told_to-then-self-eq0.ensures (none, refl))

pub returns-else-self-eq0 : goal.returns-else-self-eq0
returns-else-self-eq0 g c =
    let old = c.args.self.now in
    let new = c.call.new.self in
    let step = g.P.Port.step c.args.pid in
    let w = c.in-Waits.field-0 in (
      refl,
      passed_so _ _ c.in-Waits.ensures (λ q a. step old.port.now q a new) (λ q a. Spares step (old.port.now, old.room) q a (new, old.room))
          (λ a h. (subst (λ (b : Bool). SparesWaits step b w.topic.now w.sub old.port.now a new) (sym (ne_eqb old.room 0 c.if-self-eq0.false)) h, refl)) _ c.call.ensures,
    )

pub returns-in_default : goal.returns-in_default
returns-in_default g c =
    let old = c.args.self.now in
    let new = c.call-in_default.new.self in
    let step = g.P.Port.step c.args.pid in (
      refl,
      passed_so _ _ c.question.ensures (λ q a. step old.port.now q a new) (λ q a. Spares step (old.port.now, old.room) q a (new, old.room))
          (λ a h. others_pass step (old.port.now, old.room) (new, old.room) c.question.result c.in_default.not-Take c.in_default.not-Waits a h refl) _ c.call-in_default.ensures,
    )
