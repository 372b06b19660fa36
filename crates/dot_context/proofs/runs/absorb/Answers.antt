use Rattle.std.proofs.Common.{arith, ◌∙◌}
use Rattle.dot_context.proofs.RunFacts.{not_at}
use Rattle.dot_context.proofs.StepFacts.{absorbs_one}
use Rattle.dot_context.proofs.runs.absorb.Goals as goal

pub loop-from-preserved : goal.loop-from-preserved
loop-from-preserved c =
    let before = c.loop-from.invariant in
    let run = c.in-Some.ensures.some in
    record {
      order = omega (arith, before.order, c.max-reach.ensures);
      far = omega (arith, before.far, c.max-reach.ensures);
      start = c.remove.ensures.updates.2 c.args.start (not_at c.in-Some.from c.args.start run.0) ∙ before.start;
      absorbs = absorbs_one c.args.runs.now.entries c.loop-from.runs.entries c.remove.new.self.entries c.args.start c.args.end c.loop-from.reach c.in-Some.from c.in-Some.to c.max-reach.result
          before.absorbs run.0 run.1 run.2 c.remove.ensures.entries c.max-reach.ensures;
    }
