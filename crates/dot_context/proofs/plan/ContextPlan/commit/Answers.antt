use Rattle.std.proofs.Common.{ap}
use Rattle.dot_context.proofs.SetFacts.{joined_sets}
use Rattle.dot_context.proofs.plan.ContextPlan.commit.Goals as goal

pub returns : goal.returns
returns c = joined_sets c.fill_room.new.replicas c.self.inside.replicas c.self.inside.more c.args.self.held c.args.self.more (ap (λ p. p.held) c.self.view_is) (ap (λ p. p.more) c.self.view_is) c.fill_room.ensures.joined
