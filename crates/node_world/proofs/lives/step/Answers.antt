use Rattle.std.proofs.Common.{sym}
use Rattle.node_world.specs.Lives.{Steps}
use Rattle.node_world.proofs.WorldLifeFacts.{turns_some, turns_none, stays_some}
use Rattle.node_world.proofs.lives.step.Goals as goal

pub returns-in-Some-clause-turns : goal.returns-in-Some-clause-turns
returns-in-Some-clause-turns c =
    let new = c.step.new.self in
    turns_some (Steps c.args.step.now) c.args.lives.now (c.get_mut.follows.lender new) c.args.own.now c.in-Some.life.now new c.step.result (sym c.in-Some.ensures.value) (c.get_mut.follows.holds new) c.step.ensures.stepped

pub returns-in-None-clause-turns : goal.returns-in-None-clause-turns
returns-in-None-clause-turns c = turns_none (Steps c.args.step.now) c.args.lives.now c.get_mut.follows.lender-at-none c.args.own.now (sym c.in-None.ensures.value) (sym c.get_mut.follows.holds-at-none)

pub returns-in-Some-clause-same : goal.returns-in-Some-clause-same
returns-in-Some-clause-same c =
    let new = c.step.new.self in
    stays_some c.args.lives.now (c.get_mut.follows.lender new) c.args.own.now c.in-Some.life.now new c.step.result (sym c.in-Some.ensures.value) (c.get_mut.follows.holds new) c.step.ensures.same
