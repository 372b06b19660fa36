use Rattle.std.proofs.Common.{drop, drop_of_length-le}
use Rattle.std.specs.FinMap as map
use Rattle.presence_journal.proofs.Walking.{drop_next}
use Rattle.tracker_known.specs.Again.{rows_again}
use Rattle.tracker_known.proofs.AgainLemmas.{more_again, all_again}
use Rattle.tracker_known.proofs.again.rows_again.Goals as goal

pub loop-pair-preserved : goal.loop-pair-preserved
loop-pair-preserved c =
    let l = c.loop-pair in
    let ps = c.args.pairs.now in
    let f = map.get c.args.set.now.live in
    more_again f ps l.pair-index c.pair-item.result l.rows.items c.push_again.new.rows.items (rows_again f ps)
    (drop_next ps l.pair-index c.pair-item.result c.loop-pair-test.true c.pair-item.is) c.in_ok-push_again.ensures l.invariant

pub returns : goal.returns
returns c =
    let l = c.loop-pair in
    let ps = c.args.pairs.now in
    let f = map.get c.args.set.now.live in
    all_again f ps (drop l.pair-index ps) l.rows.items (rows_again f ps) (drop_of_length-le ps c.loop-pair-test.false) l.invariant
