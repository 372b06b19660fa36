use Rattle.std.proofs.Common.{◌-◌, ◌+◌, ◌∙◌}
use Rattle.dot_context.specs.Sets.{span}
use Rattle.delta_range.proofs.LoopFacts.{pushed_one, span_next}
use Rattle.delta_range.proofs.runs.push_span.Goals as goal

pub loop-count-preserved : goal.loop-count-preserved
loop-count-preserved c =
    pushed_one _ c.loop-count.dots.items c.push.new.self.items (span c.args.owner.now c.loop-count.count (c.args.to - c.loop-count.count)) (span c.args.owner.now (c.loop-count.count + 1) (c.args.to - (c.loop-count.count + 1)))
    (span_next c.args.owner.now c.loop-count.count c.args.to c.loop-count-test.true) c.in_ok-push.ensures.items
    ∙ c.loop-count.invariant
