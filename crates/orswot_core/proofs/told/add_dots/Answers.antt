use Rattle.std.proofs.Common.{refl, sym, ◌∙◌, drop, ◌+◌}
use Rattle.std.specs.FinSet as set
use Rattle.presence_base.specs.Order.{same_dot}
use Rattle.orswot_core.proofs.LoopFacts.{next_rest, dot_added, none_left}
use Rattle.orswot_core.proofs.told.add_dots.Goals as goal

pub loop-dot-init : goal.loop-dot-init
loop-dot-init c = λ q. refl

pub loop-dot-preserved : goal.loop-dot-preserved
loop-dot-preserved c = λ q.
    dot_added c.loop-dot.covered c.add.new.self c.dot-item.result (drop c.loop-dot.dot-index c.args.dots.now) (drop (c.loop-dot.dot-index + 1) c.args.dots.now) q
    (next_rest c.args.dots.now c.loop-dot.dot-index c.dot-item.result c.loop-dot-test.true c.dot-item.is) c.in_ok-add.ensures.ok
    ∙ c.loop-dot.invariant q

pub returns : goal.returns
returns c = λ q. sym (none_left (same_dot q) c.args.dots.now c.loop-dot.dot-index (set.contains c.loop-dot.covered q) c.loop-dot-test.false) ∙ c.loop-dot.invariant q
