use Rattle.std.proofs.Common.{Ok, Err, refl, sym, subst}
use Rattle.std.proofs.lemmas.Bool.{false≢true}
use Rattle.channel_rules.proofs.Answered.{can_tell, told_so, refused_so}
use Rattle.channel_rules.specs.Asks.{Ask, Answer}
use Rattle.channel_rules.specs.Seen.{seen_by}
use Rattle.channel_rules.specs.declared.refusal.Refusal.TheVariants.{Table}
use Rattle.channel_rules.specs.declared.question.Told.TheVariants as told
use Rattle.presence_stdio.specs.Local.{LocalStep}
use Rattle.presence_stdio.proofs.Lending.{lent_step}
use Rattle.presence_stdio.proofs.local_port.LocalPortPort.call.Goals as goal

pub perform-requires : goal.perform-requires
perform-requires g c = λ some. absurd (false≢true some)

pub told_to-requires : goal.told_to-requires
told_to-requires g c = can_tell _ _ (sym c.in-Waits.ensures.1) (told.Waits c.in-Ok.waits) _ refl

pub returns-in-Step : goal.returns-in-Step
returns-in-Step g c =
    let G = g.C.Call in
    let S = g.C.Step.Call in
    let made = c.perform.ensures in
    let old = c.args.self.now.shard.now in
    let new = c.perform.new.self in
    let step = c.in-Step.step in
    let q = G.ask c.args.call.now in
    let view = G.view c.args.call.now in (
      refl,
      subst (λ r. LocalStep c.args.pid old q (seen_by view r) new) (sym c.in_table.ensures)
          (lent_step c.args.pid old new q view (S.step step) (S.there step) (S.gives step) c.in-Step.ensures c.perform.result
          (record { stepped = made.step; given = made.answer; due = made.due })),
    )

pub returns-in-Ok : goal.returns-in-Ok
returns-in-Ok g c =
    let old = c.args.self.now.shard.now in
    let S : (q : Ask) → Answer q → Type 0 = λ q a. LocalStep c.args.pid old q a old in
    (refl, told_so _ _ (sym c.in-Waits.ensures.1) S (told.Waits c.in-Ok.waits) _ _ refl c.told_to.ensures (refl, (c.in-Ok.ensures.found, c.in-Ok.ensures.value)))

pub returns-in-Err : goal.returns-in-Err
returns-in-Err g c =
    let old = c.args.self.now.shard.now in
    let S : (q : Ask) → Answer q → Type 0 = λ q a. LocalStep c.args.pid old q a old in
    (refl, refused_so _ _ (sym c.in-Waits.ensures.1) S (Table c.in-Err.fault) (refl, (c.in-Err.ensures.missing, c.in-Err.ensures.refusal)))
