use Rattle.std.proofs.Common.{sym}
use Rattle.node_world.proofs.WorldLifeFacts.{same_seen, told_some, told_none}
use Rattle.node_world.proofs.lives.told.Goals as goal

pub returns-in-Some-clause-same : goal.returns-in-Some-clause-same
returns-in-Some-clause-same c =
    let new = c.told.new.self in
    same_seen c.args.lives.now (c.get_mut.follows.lender new) c.args.own.now c.in-Some.life.now new (sym c.in-Some.ensures.value) (c.get_mut.follows.holds new) c.told.ensures.same

pub returns-in-Some-clause-told : goal.returns-in-Some-clause-told
returns-in-Some-clause-told c =
    told_some c.args.form c.args.lives.now c.args.own.now c.in-Some.life.now c.args.from c.told.result c.some.result (sym c.in-Some.ensures.value) c.told.ensures.told c.some.ensures.some c.some.ensures.ok

pub returns-in-None-clause-told : goal.returns-in-None-clause-told
returns-in-None-clause-told c = told_none c.args.form c.args.lives.now c.args.own.now c.args.from (sym c.in-None.ensures.value)
