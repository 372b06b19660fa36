use Rattle.std.proofs.Common.{◌≡◌, sym, ◌∙◌, subst}
use Rattle.delta_range.specs.Keeping.{Kept, pushed, IsNext}
use Rattle.delta_range.proofs.NothingFacts.{same_kept}
use Rattle.delta_range.proofs.generations.Generations.stays_behind.Goals as goal

pub returns : goal.returns
returns c = λ some.
    let d = c.args.delta.now in
    let k : Kept = record { last = c.self.inside.last; short = c.self.inside.short; middle = c.self.inside.middle; long = c.self.inside.long } in
    subst (λ (x : Kept). pushed x d ≡ x) c.self.view_is
    (same_kept k d c.self.invariant (subst (λ (x : Kept). IsNext x.last d) (sym c.self.view_is) c.requires)
    (sym c.tells_nothing.ensures ∙ c.if-not-tells_nothing.false)
    (sym c.keeps_something.ensures.some ∙ c.if-not-keeps_something.false)
    (sym c.keeps_something-2.ensures.some ∙ c.if-not-keeps_something-2.false)
    (sym c.keeps_something-3.ensures.some ∙ some)
    c.keeps_something.ensures.delta c.keeps_something-2.ensures.delta c.keeps_something-3.ensures.delta)
