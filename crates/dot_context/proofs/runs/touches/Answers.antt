use Rattle.std.proofs.Common.{◌≡◌, ◌≤◌, ℕ, leb, ◌&&◌, arith, ◌∙◌}
use Rattle.std.proofs.lemmas.Bool.Decides.{nat_tests}
use Rattle.dot_context.proofs.StepFacts.{room_at, no_room}
use Rattle.dot_context.proofs.runs.touches.Goals as goal

within : (f n t : ℕ) → f ≤ n → leb n t ≡ (leb f n && leb n t)
within f n t le = grind (arith, nat_tests)

pub returns-in-Some : goal.returns-in-Some
returns-in-Some c =
    within c.in-Some.field-0-0 c.args.count c.in-Some.to c.in-Some.ensures.some.0
    ∙ room_at c.args.count c.in-Some.field-0-0 c.in-Some.to c.args.runs.now.entries c.requires c.in-Some.ensures.some.1 c.in-Some.ensures.some.2 c.in-Some.ensures.some.0

pub returns-in-None : goal.returns-in-None
returns-in-None c = no_room c.args.count c.args.runs.now.entries c.requires c.in-None.ensures.none
