use Rattle.std.proofs.Common.{◌≡◌, ℕ, true, false, Result, Ok, Err, is_ok, refl, ap, subst, sym, ◌∙◌}
use Rattle.channel_rules.proofs.Answered.{can_tell, told_so, refused_so, passed_so}
use Rattle.channel_rules.specs.Asks.{Ask, Answer}
use Rattle.channel_rules.specs.declared.question.Told.TheVariants as told
use Rattle.channel_pieces.specs.Piecewise.{Piecewise, Waits}
use Rattle.channel_pieces.proofs.Passing.{others_pass, waits_under_way, waits_inside, ended_so}
use Rattle.channel_pieces.proofs.port.PiecewisePortPort.call.Goals as goal

pub told_to-requires : goal.told_to-requires
told_to-requires g c = can_tell _ _ c.in-List.ensures (told.Rows c.in-Ok.rows) _ refl

pub told_to-requires-in-Ok-get : goal.told_to-requires-in-Ok-get
told_to-requires-in-Ok-get g c = can_tell _ _ c.in-Get.ensures (told.Got c.in-Ok-get.rows) _ refl

pub told_to-requires-in-Ok-take : goal.told_to-requires-in-Ok-take
told_to-requires-in-Ok-take g c = can_tell _ _ c.in-Take.ensures (told.Items c.in-Ok-take.items) _ refl

pub told_to-requires-then-is_under_way : goal.told_to-requires-then-is_under_way
told_to-requires-then-is_under_way g c = can_tell _ _ c.in-Waits.ensures (told.Waits c.is_to-waits.result) _ refl

pub returns-in-Ok : goal.returns-in-Ok
returns-in-Ok g c =
    let old = c.args.self.now in
    let new = c.list.new.self in
    let S : (q : Ask) → Answer q → Type 0 = λ q a. Piecewise (g.P.Port.step c.args.pid) (old.port.now, old.telling.now.untold) q a (new.port.now, new.telling.now.untold) in
    (c.in-Ok.ensures.same_port, ap (λ t. t.ghost_name) c.in-Ok.ensures.same_telling, told_so _ _ c.in-List.ensures S (told.Rows c.in-Ok.rows) _ _ refl c.told_to.ensures c.in-Ok.ensures.listed)

pub returns-in-Err : goal.returns-in-Err
returns-in-Err g c =
    let old = c.args.self.now in
    let new = c.list.new.self in
    let S : (q : Ask) → Answer q → Type 0 = λ q a. Piecewise (g.P.Port.step c.args.pid) (old.port.now, old.telling.now.untold) q a (new.port.now, new.telling.now.untold) in
    (c.in-Err.ensures.same_port, ap (λ t. t.ghost_name) c.in-Err.ensures.same_telling, refused_so _ _ c.in-List.ensures S c.in-Err.refusal c.in-Err.ensures.listed)

pub returns-in-Ok-get : goal.returns-in-Ok-get
returns-in-Ok-get g c =
    let old = c.args.self.now in
    let new = c.get.new.self in
    let S : (q : Ask) → Answer q → Type 0 = λ q a. Piecewise (g.P.Port.step c.args.pid) (old.port.now, old.telling.now.untold) q a (new.port.now, new.telling.now.untold) in
    (c.in-Ok-get.ensures.same_port, ap (λ t. t.ghost_name) c.in-Ok-get.ensures.same_telling, told_so _ _ c.in-Get.ensures S (told.Got c.in-Ok-get.rows) _ _ refl c.told_to-in-Ok-get.ensures c.in-Ok-get.ensures.got)

pub returns-in-Err-get : goal.returns-in-Err-get
returns-in-Err-get g c =
    let old = c.args.self.now in
    let new = c.get.new.self in
    let S : (q : Ask) → Answer q → Type 0 = λ q a. Piecewise (g.P.Port.step c.args.pid) (old.port.now, old.telling.now.untold) q a (new.port.now, new.telling.now.untold) in
    (c.in-Err-get.ensures.same_port, ap (λ t. t.ghost_name) c.in-Err-get.ensures.same_telling, refused_so _ _ c.in-Get.ensures S c.in-Err-get.refusal c.in-Err-get.ensures.got)

pub returns-in-Ok-take : goal.returns-in-Ok-take
returns-in-Ok-take g c =
    let old = c.args.self.now in
    let new = c.take.new.self in
    let S : (q : Ask) → Answer q → Type 0 = λ q a. Piecewise (g.P.Port.step c.args.pid) (old.port.now, old.telling.now.untold) q a (new.port.now, new.telling.now.untold) in
    (c.in-Ok-take.ensures.same_port, c.in-Ok-take.ensures.same_telling, told_so _ _ c.in-Take.ensures S (told.Items c.in-Ok-take.items) _ _ refl c.told_to-in-Ok-take.ensures c.in-Ok-take.ensures.taken)

pub returns-in-Err-take : goal.returns-in-Err-take
returns-in-Err-take g c =
    let old = c.args.self.now in
    let new = c.take.new.self in
    let S : (q : Ask) → Answer q → Type 0 = λ q a. Piecewise (g.P.Port.step c.args.pid) (old.port.now, old.telling.now.untold) q a (new.port.now, new.telling.now.untold) in
    (c.in-Err-take.ensures.same_port, c.in-Err-take.ensures.same_telling, refused_so _ _ c.in-Take.ensures S c.in-Err-take.refusal c.in-Err-take.ensures.taken)

pub returns-then-is_under_way : goal.returns-then-is_under_way
returns-then-is_under_way g c =
    let old = c.args.self.now in
    let untold = old.telling.now.untold in
    let step = g.P.Port.step c.args.pid in
    let S : (q : Ask) → Answer q → Type 0 = λ q a. Piecewise step (old.port.now, untold) q a (old.port.now, untold) in
    let waits = subst (λ w. Waits step untold c.in-Waits.field-0.topic.now c.in-Waits.field-0.sub old.port.now (Ok w) old.port.now) (sym c.is_to-waits.ensures)
    (waits_under_way step c.in-Waits.field-0.topic.now c.in-Waits.field-0.sub old.port.now untold (sym c.is_under_way.ensures ∙ c.if-is_under_way.true)) in
    (refl, refl, told_so _ _ c.in-Waits.ensures S (told.Waits c.is_to-waits.result) _ _ refl c.told_to-then-is_under_way.ensures (waits, refl))

pub returns-else-is_under_way : goal.returns-else-is_under_way
returns-else-is_under_way g c =
    let untold = c.args.self.now.telling.now.untold in
    let old = c.args.self.now.port.now in
    let new = c.call.new.self in
    let step = g.P.Port.step c.args.pid in (
      refl,
      refl,
      passed_so _ _ c.in-Waits.ensures (λ q a. step old q a new) (λ q a. Piecewise step (old, untold) q a (new, untold))
          (λ a h. (waits_inside step c.in-Waits.field-0.topic.now c.in-Waits.field-0.sub old untold (sym c.is_under_way.ensures ∙ c.if-is_under_way.false) a new h, refl)) _ c.call.ensures,
    )

pub returns-in-Ok-call : goal.returns-in-Ok-call
returns-in-Ok-call g c =
    let untold = c.args.self.now.telling.now.untold in
    let old = c.args.self.now.port.now in
    let new = c.call-in-Unsubscribe.new.self in
    let left = c.forget.new.self.untold in
    let step = g.P.Port.step c.args.pid in (
      refl,
      refl,
      passed_so _ _ c.in-Unsubscribe.ensures (λ q a. step old q a new × (is_ok a ≡ true)) (λ q a. Piecewise step (old, untold) q a (new, left))
          (λ a h. ended_so step (old, untold) (new, left) c.in-Unsubscribe.field-0.topic.now c.in-Unsubscribe.field-0.sub a h.0 true h.1 c.forget.ensures) _ (c.in-Ok-call.ensures, refl),
    )

pub returns-in-Err-call : goal.returns-in-Err-call
returns-in-Err-call g c =
    let untold = c.args.self.now.telling.now.untold in
    let old = c.args.self.now.port.now in
    let new = c.call-in-Unsubscribe.new.self in
    let step = g.P.Port.step c.args.pid in (
      refl,
      refl,
      passed_so _ _ c.in-Unsubscribe.ensures (λ q a. step old q a new × (is_ok a ≡ false)) (λ q a. Piecewise step (old, untold) q a (new, untold))
          (λ a h. ended_so step (old, untold) (new, untold) c.in-Unsubscribe.field-0.topic.now c.in-Unsubscribe.field-0.sub a h.0 false h.1 refl) _ (c.in-Err-call.ensures, refl),
    )

pub returns-in_default : goal.returns-in_default
returns-in_default g c =
    let untold = c.args.self.now.telling.now.untold in
    let old = c.args.self.now.port.now in
    let new = c.call-in_default.new.self in
    let step = g.P.Port.step c.args.pid in
    let d = c.in_default in (
      refl,
      refl,
      passed_so _ _ c.question.ensures (λ q a. step old q a new) (λ q a. Piecewise step (old, untold) q a (new, untold))
          (λ a h. others_pass step (old, untold) (new, untold) c.question.result d.not-List d.not-Get d.not-Take d.not-Waits d.not-Unsubscribe a h refl) _ c.call-in_default.ensures,
    )
