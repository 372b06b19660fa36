use Rattle.std.proofs.Common.{inr, refl, subst}
use Rattle.serve_rations.specs.declared.amount.Amount.{Amount}
use Rattle.serve_rations.specs.Rationing.{Released}
use Rattle.serve_rations.proofs.rationing.RationedPort.untrack_all.Goals as goal

pub returns-in-Ok : goal.returns-in-Ok
returns-in-Ok g c =
    let budgets = c.args.self.now.budgets in
    let gives = subst (λ (a : Amount). Released g.B.Budgets.released budgets c.args.untrack_all.topic.now a c.release.new.budgets) c.taken_by_topic-taken.ensures c.release.ensures in
    (budgets, inr (refl, refl), c.in-Ok.ensures, (c.forget_topic.ensures, gives))

pub returns-in-Err : goal.returns-in-Err
returns-in-Err g c = (c.args.self.now.budgets, inr (refl, refl), c.in-Err.ensures, ((λ p. refl), inr (refl, refl)))
