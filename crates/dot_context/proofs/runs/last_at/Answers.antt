use Rattle.dot_context.proofs.RunFacts.{at_most, in_bound, is_within}
use Rattle.dot_context.proofs.runs.last_at.Goals as goal

pub returns-in-Some-clause-some : goal.returns-in-Some-clause-some
returns-in-Some-clause-some c =
    let here = (c.range.ensures.in_range tt).3 (c.in-Some.from.now, c.in-Some.to.now) _ c.in-Some.ensures.steps in
    let last = (c.range.ensures.in_range tt).4 (c.in-Some.from.now, c.in-Some.to.now) _ c.in-Some.ensures.steps in
    (in_bound _ _ here.0.1, here.1, λ f le there. at_most f c.in-Some.from.now (last f (tt, is_within f c.args.count le) there))
