use Rattle.std.proofs.Common.{sym, ◌∙◌, subst, rules}
use Rattle.delta_range.specs.Keeping.{IsNext}
use Rattle.delta_range.proofs.KeepFacts.{kept_after}
use Rattle.delta_range.proofs.generations.Generations.followed_by.Goals as goal

pub invariant_of-result : goal.invariant_of-result
invariant_of-result c =
    kept_after (record { last = c.self.inside.last; short = c.self.inside.short; middle = c.self.inside.middle; long = c.self.inside.long })
    c.args.delta.now c.owner.result c.to.result c.commit.result c.commit-2.result c.commit-3.result c.self.invariant
    (subst (λ k. IsNext k.last c.args.delta.now) (sym c.self.view_is) c.requires)
    c.owner.ensures c.to.ensures (c.commit.ensures ∙ c.in-Ok.ensures.after) (c.commit-2.ensures ∙ c.in-Ok-plan_next.ensures.after) (c.commit-3.ensures ∙ c.in-Ok-plan_next-2.ensures.after)

pub returns-clause-ok : goal.returns-clause-ok
returns-clause-ok c = search rules
