use Rattle.std.proofs.Common.{◌∙◌}
use Rattle.dot_context.proofs.SetFacts.{seen_at}
use Rattle.dot_context.proofs.context.Context.covers.Goals as goal

pub returns : goal.returns
returns c = c.covers_dot.ensures ∙ seen_at c.self.inside.replicas c.args.self.now c.args.dot.now c.self.view_is
