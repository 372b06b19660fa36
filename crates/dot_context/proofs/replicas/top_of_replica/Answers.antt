use Rattle.std.proofs.Common.{◌+◌, sym, ◌∙◌, ap, arith}
use Rattle.dot_context.specs.Runs.{holds}
use Rattle.dot_context.specs.Sets.{listed}
use Rattle.dot_context.proofs.SetFacts.{top_held, next_not_held}
use Rattle.dot_context.proofs.replicas.top_of_replica.Goals as goal

pub returns-in-Some-clause-next : goal.returns-in-Some-clause-next
returns-in-Some-clause-next c =
    ap (λ o. holds (listed o) (c.top.result + 1)) (sym c.in-Some.ensures.value) ∙ ap (λ n. holds c.in-Some.runs.now (n + 1)) c.top.ensures.top ∙ next_not_held c.in-Some.runs.now c.top.ensures.apart

pub returns-in-Some-clause-below : goal.returns-in-Some-clause-below
returns-in-Some-clause-below c = λ n some le.
    ap (λ o. holds (listed o) n) (sym c.in-Some.ensures.value) ∙ top_held c.in-Some.runs.now n c.top.ensures.apart some (omega (arith, c.top.ensures.top))
