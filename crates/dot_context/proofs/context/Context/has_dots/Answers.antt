use Rattle.dot_context.proofs.SetFacts.{any_dots}
use Rattle.dot_context.proofs.context.Context.has_dots.Goals as goal

pub returns : goal.returns
returns c = any_dots c.self.inside.replicas c.args.self.now c.args.replica.now c.has_runs.result c.self.view_is c.self.invariant c.has_runs.ensures
