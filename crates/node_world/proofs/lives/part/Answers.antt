use Rattle.std.proofs.Common.{sym}
use Rattle.node_world.proofs.WorldLifeFacts.{same_seen}
use Rattle.node_world.proofs.Parts.{part_some, part_none}
use Rattle.node_world.proofs.lives.part.Goals as goal

pub returns-in-Some-clause-same : goal.returns-in-Some-clause-same
returns-in-Some-clause-same c =
    let new = c.part.new.self in
    same_seen c.args.lives.now (c.get_mut.follows.lender new) c.args.own.now c.in-Some.life.now new (sym c.in-Some.ensures.value) (c.get_mut.follows.holds new) c.part.ensures.same

pub returns-in-Some-clause-told : goal.returns-in-Some-clause-told
returns-in-Some-clause-told c =
    part_some c.args.form c.args.lives.now c.args.own.now c.in-Some.life.now c.args.wanted.0 c.part.result (sym c.in-Some.ensures.value) c.part.ensures.told

pub returns-in-None-clause-told : goal.returns-in-None-clause-told
returns-in-None-clause-told c = part_none c.args.form c.args.lives.now c.args.own.now c.args.wanted.0 (sym c.in-None.ensures.value)
