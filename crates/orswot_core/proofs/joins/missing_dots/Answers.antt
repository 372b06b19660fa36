use Rattle.std.proofs.Common.{◌+◌, ◌&&◌, not, drop, sym, ◌∙◌, ap}
use Rattle.std.specs.List.{list_any}
use Rattle.std.specs.FinSet as set
use Rattle.presence_base.specs.Order.{same_dot}
use Rattle.orswot_core.specs.Checks.{dots_of}
use Rattle.orswot_core.proofs.LoopFacts.{next_rest}
use Rattle.orswot_core.proofs.GatherFacts.{next_gathered, none_gathered, told_some}
use Rattle.orswot_core.proofs.joins.missing_dots.Goals as goal

pub loop-row-preserved : goal.loop-row-preserved
loop-row-preserved c = λ q.
    next_gathered (λ d. not (set.contains c.args.covered.now d)) c.loop-row.added.items c.gather_uncovered.new.added.items c.row-item.result.0
    (dots_of (drop c.loop-row.row-index c.args.rows.now)) (dots_of (drop (c.loop-row.row-index + 1) c.args.rows.now)) q
    (ap dots_of (next_rest c.args.rows.now c.loop-row.row-index c.row-item.result c.loop-row-test.true c.row-item.is)) (c.in_ok-gather_uncovered.ensures q)
    ∙ c.loop-row.invariant q

pub returns : goal.returns
returns c = λ q.
    sym (none_gathered (list_any (same_dot q) c.loop-row.added.items) (not (set.contains c.args.covered.now q)) q c.args.rows.now c.loop-row.row-index c.loop-row-test.false)
    ∙ c.loop-row.invariant q ∙ ap (λ b. not (set.contains c.args.covered.now q) && b) (told_some q c.args.rows.now)
