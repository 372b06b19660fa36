use Rattle.std.proofs.Common.{refl, sym, ◌∙◌, drop, ◌+◌}
use Rattle.std.specs.FinSet as set
use Rattle.orswot_core.specs.Telling.{range_has}
use Rattle.orswot_core.proofs.LoopFacts.{next_rest, range_added, none_left}
use Rattle.orswot_core.proofs.told.add_ranges.Goals as goal

pub loop-range-init : goal.loop-range-init
loop-range-init c = λ q. refl

pub loop-range-preserved : goal.loop-range-preserved
loop-range-preserved c = λ q.
    range_added c.loop-range.covered c.add_range.new.self c.range-item.result (drop c.loop-range.range-index c.args.ranges.now) (drop (c.loop-range.range-index + 1) c.args.ranges.now) q
    (next_rest c.args.ranges.now c.loop-range.range-index c.range-item.result c.loop-range-test.true c.range-item.is)
    c.in_ok-add_range.ensures.ok
    ∙ c.loop-range.invariant q

pub returns : goal.returns
returns c = λ q. sym (none_left (range_has q) c.args.ranges.now c.loop-range.range-index (set.contains c.loop-range.covered q) c.loop-range-test.false) ∙ c.loop-range.invariant q
