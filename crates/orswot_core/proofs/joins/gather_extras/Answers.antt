use Rattle.std.proofs.Common.{◌+◌, drop, ◌∙◌}
use Rattle.orswot_core.proofs.LoopFacts.{next_rest}
use Rattle.orswot_core.specs.Steps.{left_at}
use Rattle.orswot_core.proofs.GatherFacts.{next_gathered}
use Rattle.orswot_core.proofs.joins.gather_extras.Goals as goal

pub loop-dot-preserved : goal.loop-dot-preserved
loop-dot-preserved c = λ q.
    next_gathered (left_at c.args.live.now c.args.told.now) c.loop-dot.gone.items c.gather_dot.new.gone.items c.dot-item.result (drop c.loop-dot.dot-index c.args.extras.now) (drop (c.loop-dot.dot-index + 1) c.args.extras.now) q
    (next_rest c.args.extras.now c.loop-dot.dot-index c.dot-item.result c.loop-dot-test.true c.dot-item.is) (c.in_ok-gather_dot.ensures q)
    ∙ c.loop-dot.invariant q
