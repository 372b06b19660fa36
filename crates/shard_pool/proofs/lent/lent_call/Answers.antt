use Rattle.std.proofs.Common.{◌≡◌, ◌+◌, rules, ap, subst, ◌∙◌}
use Rattle.std.proofs.Common.{Some, ◌++◌, ◌∷◌, []}
use Rattle.presence_journal.specs.History.{History, last_number}
use Rattle.tracker_shard.specs.Steps.{Made, Stepped}
use Rattle.shard_pool.specs.Hands.{Hand, receipt}
use Rattle.shard_pool.specs.Lent.{Replies, reply_of}
use Rattle.shard_pool.proofs.Notes.{entered_step, entered_answer, entered_due, entered_total, entered_notes}
use Rattle.shard_pool.proofs.lent.lent_call.Goals as goal

pub returns-clause-answer : goal.returns-clause-answer
returns-clause-answer g c =
    let call = c.args.call.now in
    let h = c.args.locked.now.shard in
    let Gives = g.C.Call.gives call h in
    let step = g.C.Call.step call in
    let n = c.next_number-number.result in
    let x = c.reply_to.result in
    let number : n ≡ last_number h + 1 = c.next_number-number.ensures ∙ ap (λ (k : History). last_number k + 1) c.look.ensures.same in
    let is : x ≡ reply_of c.part.inside.shard n c.in_ok-step.field-0.answer = search rules in
    subst (λ k. Replies k h step Gives x) (ap (λ (p : Hand). p.shard) c.part.view_is)
    (entered_answer Gives (g.C.Call.there call h) h step c.in_ok-step.field-0 c.part.inside.shard n x is number c.in_ok-step.ensures.found)

pub returns-clause-total : goal.returns-clause-total
returns-clause-total g c =
    let call = c.args.call.now in
    let h = c.args.locked.now.shard in
    let Gives = g.C.Call.gives call h in
    let step = g.C.Call.step call in
    let n = c.next_number-number.result in
    let x = c.reply_to.result in
    let is : x ≡ reply_of c.part.inside.shard n c.in_ok-step.field-0.answer = search rules in
    let one : c.enter.new.self.calls.total ≡ c.args.locked.now.calls.total + 1 = search rules in
    entered_total Gives (g.C.Call.there call h) h step c.in_ok-step.field-0 c.part.inside.shard n _ _ x is c.in_ok-step.ensures.found one

pub returns-clause-step : goal.returns-clause-step
returns-clause-step g c =
    let call = c.args.call.now in
    let h = c.args.locked.now.shard in
    let left = c.enter.new.self.shard in
    let Gives = g.C.Call.gives call h in
    let step = g.C.Call.step call in
    let found = c.in_ok-step.field-0 in
    let n = c.next_number-number.result in
    let x = c.reply_to.result in
    let is : x ≡ reply_of c.part.inside.shard n found.answer = search rules in
    let made : Made h left (Some c.part.inside.seat) found.step = subst (λ k. Made k left (Some c.part.inside.seat) found.step) c.look.ensures.same c.in_ok-enter.ensures.step in
    subst (λ k. Stepped h left (Some k) step x) (ap (λ (p : Hand). p.seat) c.part.view_is)
    (entered_step Gives (g.C.Call.there call h) h left (Some c.part.inside.seat) step found c.part.inside.shard n x is c.in_ok-step.ensures.found made)

pub returns-clause-due : goal.returns-clause-due
returns-clause-due g c =
    let call = c.args.call.now in
    let h = c.args.locked.now.shard in
    let found = c.in_ok-step.field-0 in
    let n = c.next_number-number.result in
    let x = c.reply_to.result in
    let is : x ≡ reply_of c.part.inside.shard n found.answer = search rules in
    entered_due (g.C.Call.gives call h) (g.C.Call.there call h) h (g.C.Call.step call) found c.part.inside.shard n x is c.in_ok-step.ensures.found

pub returns-clause-notes : goal.returns-clause-notes
returns-clause-notes g c =
    let call = c.args.call.now in
    let h = c.args.locked.now.shard in
    let step = g.C.Call.step call in
    let found = c.in_ok-step.field-0 in
    let n = c.next_number-number.result in
    let x = c.reply_to.result in
    let r = c.in_ok-receipt.receipt in
    let shard_is = ap (λ (p : Hand). p.shard) c.part.view_is in
    let is : x ≡ reply_of c.part.inside.shard n found.answer = search rules in
    let number : n ≡ last_number h + 1 = c.next_number-number.ensures ∙ ap (λ (k : History). last_number k + 1) c.look.ensures.same in
    let kept : r ≡ receipt c.args.part.now.shard n found.step found.outcome =
    c.in_ok-receipt.ensures ∙ ap (λ k. receipt k n found.step found.outcome) shard_is in
    let receipts_were = c.in_ok-make_room.ensures.items ∙ ap (λ (p : Hand). p.receipts) c.part.view_is in
    let share_was = ap (λ (p : Hand). p.share) c.part.view_is in
    entered_notes (g.C.Call.gives call h) (g.C.Call.there call h) h c.args.part.now _ step found r n x
    (is ∙ ap (λ k. reply_of k n found.answer) shard_is) c.in_ok-step.ensures.found number
    kept (ap (λ (p : Hand). p.seat) c.part.view_is) shard_is
    (c.push_reserved.ensures.items ∙ ap (λ l. l ++ r ∷ []) receipts_were)
    (c.in_ok-enter.ensures.amount ∙ ap (λ k. k + 1) share_was)
