use Rattle.std.proofs.Common.{◌≡◌, ◌<◌, ◌≤◌, ℕ, ltb, leb, ◌&&◌, arith, ◌∙◌}
use Rattle.std.proofs.lemmas.Bool.Decides.{nat_tests}
use Rattle.dot_context.proofs.StepFacts.{covered_at, uncovered}
use Rattle.dot_context.proofs.runs.covers_count.Goals as goal

within : (f n t : ℕ) → f < n → leb n t ≡ (ltb f n && leb n t)
within f n t lt = grind (arith, nat_tests)

outside : (f n t : ℕ) → n ≤ f → ltb f n ≡ (ltb f n && leb n t)
outside f n t le = grind (arith, nat_tests)

pub returns-then-from-count : goal.returns-then-from-count
returns-then-from-count c =
    within c.in-Some.from c.args.count c.in-Some.to c.if-from-count.true
    ∙ covered_at c.args.count c.in-Some.from c.in-Some.to c.args.runs.now.entries c.requires c.in-Some.ensures.some.1 c.in-Some.ensures.some.2 c.in-Some.ensures.some.0

pub returns-else-from-count : goal.returns-else-from-count
returns-else-from-count c =
    outside c.in-Some.from c.args.count c.in-Some.to c.if-from-count.false
    ∙ covered_at c.args.count c.in-Some.from c.in-Some.to c.args.runs.now.entries c.requires c.in-Some.ensures.some.1 c.in-Some.ensures.some.2 c.in-Some.ensures.some.0

pub returns-in-None : goal.returns-in-None
returns-in-None c = uncovered c.args.count c.args.runs.now.entries c.requires c.in-None.ensures.none
