use Rattle.std.proofs.Common.{◌≡◌, Ok, Err, refl, sym, ◌∙◌}
use Rattle.channel_rules.proofs.Answered.{can_tell, told_so, refused_so}
use Rattle.channel_rules.specs.Asks.{Ask, Answer}
use Rattle.channel_rules.specs.declared.question.Told.TheVariants as told
use Rattle.serve_ports.specs.Counting.{counted}
use Rattle.serve_ports.proofs.Counts.{asked_others}
use Rattle.serve_ports.proofs.port.CountingPortPort.call.Goals as goal

pub told_to-requires : goal.told_to-requires
told_to-requires g c = can_tell _ _ c.in-Take.ensures (told.Items c.in-Ok.items) _ refl

pub returns-in-Ok : goal.returns-in-Ok
returns-in-Ok g c =
    let old = c.args.self.now in
    let new = c.take.new.self in
    let S : (q : Ask) → Answer q → Type 0 = λ q a. g.P.Port.step c.args.pid old.port q a new.port × (new.tally ≡ counted old.tally q a) in
    told_so _ _ c.in-Take.ensures S (told.Items c.in-Ok.items) _ _ refl c.told_to.ensures (c.in-Ok.ensures.port, c.in-Ok.ensures.tally)

pub returns-in-Err : goal.returns-in-Err
returns-in-Err g c =
    let old = c.args.self.now in
    let new = c.take.new.self in
    let S : (q : Ask) → Answer q → Type 0 = λ q a. g.P.Port.step c.args.pid old.port q a new.port × (new.tally ≡ counted old.tally q a) in
    refused_so _ _ c.in-Take.ensures S c.in-Err.refusal (c.in-Err.ensures.port, c.in-Err.ensures.tally)

pub returns-in-Ok-call : goal.returns-in-Ok-call
returns-in-Ok-call g c =
    (c.in-Ok-call.ensures, c.add.ensures ∙ sym (asked_others c.args.self.now.tally c.question.result c.in_default.not-Take _ c.question.ensures (Ok (g.C.Call.view c.args.call.now c.in-Ok-call.given))))

pub returns-in-Err-call : goal.returns-in-Err-call
returns-in-Err-call g c =
    (c.in-Err-call.ensures, c.add-in-Err-call.ensures ∙ sym (asked_others c.args.self.now.tally c.question.result c.in_default.not-Take _ c.question.ensures (Err c.in-Err-call.refusal)))
