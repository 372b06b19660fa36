use Rattle.std.proofs.Common.{sym}
use Rattle.node_world.proofs.WorldLifeFacts.{cut_some, cut_none, stays_some}
use Rattle.node_world.proofs.lives.cut.Goals as goal

pub returns-in-Some-clause-cut : goal.returns-in-Some-clause-cut
returns-in-Some-clause-cut c =
    let new = c.cut.new.self in
    cut_some c.args.form c.args.lives.now (c.get_mut.follows.lender new) c.args.own.now c.in-Some.life.now new c.cut.result (sym c.in-Some.ensures.value) (c.get_mut.follows.holds new) c.cut.ensures.history c.cut.ensures.made

pub returns-in-None-clause-cut : goal.returns-in-None-clause-cut
returns-in-None-clause-cut c = cut_none c.args.form c.args.lives.now c.get_mut.follows.lender-at-none c.args.own.now (sym c.in-None.ensures.value) (sym c.get_mut.follows.holds-at-none)

pub returns-in-Some-clause-same : goal.returns-in-Some-clause-same
returns-in-Some-clause-same c =
    let new = c.cut.new.self in
    stays_some c.args.lives.now (c.get_mut.follows.lender new) c.args.own.now c.in-Some.life.now new c.cut.result (sym c.in-Some.ensures.value) (c.get_mut.follows.holds new) c.cut.ensures.same
