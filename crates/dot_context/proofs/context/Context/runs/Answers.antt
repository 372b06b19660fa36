use Rattle.dot_context.proofs.FormFacts.{runs_formed}
use Rattle.dot_context.proofs.context.Context.runs.Goals as goal

pub returns : goal.returns
returns c =
    let m = c.self.inside.replicas in
    (m.entries, record { dots = c.self.view_is; replicas = c.iter.ensures.ordered; runs = runs_formed m c.self.invariant c.iter.ensures.found }, c.iter.ensures.rest)
