use Rattle.std.proofs.Common.{◌+◌, drop, ◌∙◌}
use Rattle.orswot_core.proofs.LoopFacts.{next_rest}
use Rattle.orswot_core.proofs.RowFacts.{taken_one}
use Rattle.orswot_core.proofs.joins.drop_dots.Goals as goal

pub loop-dot-preserved : goal.loop-dot-preserved
loop-dot-preserved c = λ q.
    taken_one c.loop-dot.live c.take_row.new.live c.dot-item.result (drop c.loop-dot.dot-index c.args.dots.now) (drop (c.loop-dot.dot-index + 1) c.args.dots.now) q
    (next_rest c.args.dots.now c.loop-dot.dot-index c.dot-item.result c.loop-dot-test.true c.dot-item.is) c.take_row.ensures
    ∙ c.loop-dot.invariant q
