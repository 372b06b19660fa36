use Rattle.std.proofs.Common.{◌+◌, sym, ◌∙◌}
use Rattle.dot_context.proofs.SetFacts.{seen_at}
use Rattle.dot_context.proofs.context.Context.top.Goals as goal

pub returns-clause-below : goal.returns-clause-below
returns-clause-below c = λ n some le. sym (seen_at c.self.inside.replicas c.args.self.now (record { replica = c.args.replica.now; count = n }) c.self.view_is) ∙ c.top_of_replica.ensures.below n some le

pub returns-clause-next : goal.returns-clause-next
returns-clause-next c = sym (seen_at c.self.inside.replicas c.args.self.now (record { replica = c.args.replica.now; count = c.top_of_replica.result + 1 }) c.self.view_is) ∙ c.top_of_replica.ensures.next
