use Rattle.std.proofs.Common.{◌≡◌, sym}
use Rattle.node_world.specs.Living.{BeginsAgain}
use Rattle.node_world.specs.Lives.{Begun}
use Rattle.node_world.proofs.WorldLifeFacts.{turns_some, turns_none, stays_some, on_both}
use Rattle.node_world.proofs.lives.checkpoint.Goals as goal

pub returns-in-Some-clause-turns : goal.returns-in-Some-clause-turns
returns-in-Some-clause-turns c =
    let new = c.checkpoint.new.self in
    turns_some Begun c.args.lives.now (c.get_mut.follows.lender new) c.args.own.now c.in-Some.life.now new c.checkpoint.result (sym c.in-Some.ensures.value) (c.get_mut.follows.holds new) (on_both (BeginsAgain c.in-Some.life.now.history new.history) (new.made ≡ c.in-Some.life.now.made) c.checkpoint.result c.checkpoint.ensures.history c.checkpoint.ensures.made)

pub returns-in-None-clause-turns : goal.returns-in-None-clause-turns
returns-in-None-clause-turns c = turns_none Begun c.args.lives.now c.get_mut.follows.lender-at-none c.args.own.now (sym c.in-None.ensures.value) (sym c.get_mut.follows.holds-at-none)

pub returns-in-Some-clause-same : goal.returns-in-Some-clause-same
returns-in-Some-clause-same c =
    let new = c.checkpoint.new.self in
    stays_some c.args.lives.now (c.get_mut.follows.lender new) c.args.own.now c.in-Some.life.now new c.checkpoint.result (sym c.in-Some.ensures.value) (c.get_mut.follows.holds new) c.checkpoint.ensures.same
