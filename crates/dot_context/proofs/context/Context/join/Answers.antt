use Rattle.dot_context.proofs.SetFacts.{joined_sets, unmoved, on_ok, on_err}
use Rattle.dot_context.proofs.context.Context.join.Goals as goal

pub returns-clause-ok : goal.returns-clause-ok
returns-clause-ok c = on_ok c.join_all.result (joined_sets c.join_all.new.replicas c.self.inside.replicas c.other.inside.replicas c.args.self.now c.args.other.now c.self.view_is c.other.view_is) c.join_all.ensures.ok

pub returns-clause-err : goal.returns-clause-err
returns-clause-err c = on_err c.join_all.result (unmoved c.self.inside.replicas c.join_all.new.replicas c.args.self.now c.self.view_is) c.join_all.ensures.err
