use Rattle.std.proofs.Common.{sym, subst}
use Rattle.orswot_core.proofs.LoopFacts.{next_rest}
use Rattle.node_world.specs.World.{Runs}
use Rattle.node_world.proofs.running.apply_all.Goals as goal

pub loop-event-preserved : goal.loop-event-preserved
loop-event-preserved c = λ v r.
    let rest = next_rest c.args.events.now c.loop-event.event-index c.event-item.result c.loop-event-test.true c.event-item.is in
    c.loop-event.invariant v (subst (λ es. Runs c.loop-event.world es v) (sym rest) (c.apply.new.self, c.in_ok-apply.ensures.happens, r))
