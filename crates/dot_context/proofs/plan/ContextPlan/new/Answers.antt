use Rattle.std.proofs.Common.{refl, ap}
use Rattle.dot_context.specs.Sets.{Planned, set_of}
use Rattle.dot_context.proofs.SetFacts.{unmoved}
use Rattle.dot_context.proofs.plan.ContextPlan.new.Goals as goal

pub returns-in-Ok-clause-ok : goal.returns-in-Ok-clause-ok
returns-in-Ok-clause-ok c =
    ap {B = Planned} (λ s. record { held = s; more = set_of c.args.more.entries }) (unmoved c.args.replicas c.open_all.new.replicas (set_of c.args.replicas.entries) refl c.in-Ok.ensures.same)

pub returns-in-Err-clause-err : goal.returns-in-Err-clause-err
returns-in-Err-clause-err c = unmoved c.args.replicas c.open_all.new.replicas (set_of c.args.replicas.entries) refl c.in-Err.ensures.same
