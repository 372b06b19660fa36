use Rattle.std.proofs.Common.{drop, drop_of_length-le}
use Rattle.std.specs.FinMap as map
use Rattle.presence_journal.proofs.Walking.{drop_next}
use Rattle.node_world.specs.World.{rows_under}
use Rattle.node_world.proofs.GoneOn.{more_under, all_under}
use Rattle.node_world.proofs.going_on.rows_under.Goals as goal

pub loop-pair-preserved : goal.loop-pair-preserved
loop-pair-preserved c =
    let l = c.loop-pair in
    let ps = c.args.pairs.now in
    let f = map.get c.args.set.now.live in
    more_under f ps l.pair-index c.pair-item.result l.rows.items c.push_row.new.rows.items (rows_under f ps)
    (drop_next ps l.pair-index c.pair-item.result c.loop-pair-test.true c.pair-item.is) c.in_ok-push_row.ensures l.invariant

pub returns : goal.returns
returns c =
    let l = c.loop-pair in
    let ps = c.args.pairs.now in
    let f = map.get c.args.set.now.live in
    all_under f (drop l.pair-index ps) l.rows.items (rows_under f ps) (drop_of_length-le ps c.loop-pair-test.false) l.invariant
