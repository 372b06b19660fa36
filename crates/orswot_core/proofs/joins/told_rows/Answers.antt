use Rattle.std.proofs.Common.{◌+◌, drop, ◌∙◌}
use Rattle.orswot_core.proofs.LoopFacts.{next_rest}
use Rattle.orswot_core.proofs.RowFacts.{kept_first}
use Rattle.orswot_core.proofs.joins.told_rows.Goals as goal

pub loop-row-preserved : goal.loop-row-preserved
loop-row-preserved c = λ q.
    kept_first c.loop-row.live c.keep_first.new.live c.row-item.result (drop c.loop-row.row-index c.args.rows.now) (drop (c.loop-row.row-index + 1) c.args.rows.now) q
    (next_rest c.args.rows.now c.loop-row.row-index c.row-item.result c.loop-row-test.true c.row-item.is) (c.in_ok-keep_first.ensures q)
    ∙ c.loop-row.invariant q
