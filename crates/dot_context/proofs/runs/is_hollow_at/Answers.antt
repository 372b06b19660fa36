use Rattle.std.proofs.Common.{◌≡◌, ℕ, eqb, ◌&&◌, arith, ◌∙◌, sym}
use Rattle.std.proofs.lemmas.Bool.Decides.{nat_tests}
use Rattle.dot_context.proofs.StepFacts.{hollow_at, not_hollow}
use Rattle.dot_context.proofs.runs.is_hollow_at.Goals as goal

itself : (n t : ℕ) → eqb t n ≡ (eqb n n && eqb t n)
itself n t = grind (arith, nat_tests)

pub returns-in-Some-clause-hollow : goal.returns-in-Some-clause-hollow
returns-in-Some-clause-hollow c = itself c.args.from c.in-Some.to.now ∙ hollow_at c.args.from c.in-Some.to.now c.args.runs.now.entries c.requires (sym c.in-Some.ensures.value)

pub returns-in-None-clause-hollow : goal.returns-in-None-clause-hollow
returns-in-None-clause-hollow c = sym (not_hollow c.args.from c.args.runs.now.entries c.requires (sym c.in-None.ensures.value))
