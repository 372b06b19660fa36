use Rattle.std.proofs.Common.{drop_of_length-le, refl}
use Rattle.presence_journal.proofs.Walking.{drop_next}
use Rattle.tracker_shown.proofs.OpeningLemmas.{up_more, up_end}
use Rattle.tracker_shown.proofs.opening.put_up.Goals as goal

pub loop-row-init : goal.loop-row-init
loop-row-init c = λ w t p. refl

pub loop-row-preserved : goal.loop-row-preserved
loop-row-preserved c =
    let l = c.loop-row in
    let xs = c.args.live.now in
    let x = c.row-item.result in
    up_more c.args.start.now xs l.row-index x c.args.rows.now l.rows c.put_if_up.new.rows (drop_next xs l.row-index x c.loop-row-test.true c.row-item.is) c.in_ok-put_if_up.ensures l.invariant

pub returns : goal.returns
returns c =
    let l = c.loop-row in
    let xs = c.args.live.now in
    up_end c.args.start.now xs l.row-index c.args.rows.now l.rows (drop_of_length-le xs c.loop-row-test.false) l.invariant
