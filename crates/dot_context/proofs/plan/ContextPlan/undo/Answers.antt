use Rattle.std.proofs.Common.{ap}
use Rattle.dot_context.proofs.SetFacts.{unmoved}
use Rattle.dot_context.proofs.plan.ContextPlan.undo.Goals as goal

pub returns : goal.returns
returns c = unmoved c.self.inside.replicas c.close_room.new.replicas c.args.self.held (ap (λ p. p.held) c.self.view_is) c.close_room.ensures.same
