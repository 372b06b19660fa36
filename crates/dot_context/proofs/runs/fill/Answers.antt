use Rattle.std.proofs.Common.{◌≡◌, ◌≤◌, ℕ, leb, ◌&&◌, true, ap, sym, ◌∙◌, true≢false, arith}
use Rattle.std.proofs.lemmas.Bool.Decides.{nat_tests}
use Rattle.dot_context.specs.Runs.{end_at}
use Rattle.dot_context.proofs.RunFacts.{found_moved}
use Rattle.dot_context.proofs.StepFacts.{filled, no_room, room_at}
use Rattle.dot_context.proofs.runs.fill.Goals as goal

room_end : (s f e : ℕ) → (leb s f && leb f e) ≡ true → f ≤ e
room_end s f e touched = grind (arith, nat_tests)

pub returns-in_default : goal.returns-in_default
returns-in_default c = absurd (true≢false (sym c.requires.room ∙ sym (no_room c.args.from c.args.runs.now.entries c.requires.apart c.in_default.ensures.none)))

pub returns : goal.returns
returns c =
    let run = c.in-Some.ensures.some in
    let old = c.args.runs.now.entries in
    let mid = c.absorb-reach.new.runs.entries in
    let new = c.set_end.new.runs.entries in
    let there = c.absorb-reach.ensures.start ∙ run.1 in
    let touched = room_end c.in-Some.start c.args.from c.in-Some.end (room_at c.args.from c.in-Some.start c.in-Some.end old c.requires.apart run.1 run.2 run.0 ∙ c.requires.room) in
    filled old mid new c.in-Some.start c.in-Some.end c.args.from c.args.to c.max.result c.absorb-reach.result
    c.requires.apart run.1 there (ap (λ s. end_at s c.in-Some.start) c.set_end.ensures ∙ found_moved c.in-Some.start c.in-Some.end c.absorb-reach.result mid there)
    run.0 touched c.requires.order c.max.ensures c.absorb-reach.ensures.reach c.absorb-reach.ensures.clear c.absorb-reach.ensures.absorbs c.set_end.ensures
