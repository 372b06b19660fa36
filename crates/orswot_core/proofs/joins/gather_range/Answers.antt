use Rattle.std.proofs.Common.{◌||◌, ◌∙◌, ap}
use Rattle.std.specs.List.{list_any}
use Rattle.presence_base.specs.Order.{same_dot}
use Rattle.orswot_core.proofs.GatherFacts.{in_between, next_keys}
use Rattle.orswot_core.proofs.joins.gather_range.Goals as goal

pub loop-dot-init : goal.loop-dot-init
loop-dot-init c = λ q. ap (λ b. list_any (same_dot q) c.args.gone.now.items || b)
    (in_between c.args.live.now c.args.told.now c.args.range.now c.into_iter-dot-iterator.result q
    (c.into_iter-dot-iterator.ensures.into_iter_gives ∙ c.rows_in_range-dot-items.ensures.rows))

pub loop-dot-preserved : goal.loop-dot-preserved
loop-dot-preserved c = λ q.
    next_keys c.args.live.now c.args.told.now c.loop-dot.gone.items c.gather_dot.new.gone.items c.in-Some.dot.now c.in-Some._row.now c.loop-dot.dot-iterator c.next.new.self q
    c.in-Some.ensures.steps (c.in_ok-gather_dot.ensures q)
    ∙ c.loop-dot.invariant q
