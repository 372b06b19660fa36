use Rattle.std.proofs.Common.{drop_of_length-le, refl}
use Rattle.presence_journal.proofs.Walking.{drop_next}
use Rattle.tracker_shown.proofs.PlaceLemmas.{place_more, place_end}
use Rattle.tracker_shown.proofs.placed.place_all.Goals as goal

pub loop-row-init : goal.loop-row-init
loop-row-init c = λ q. refl

pub loop-row-preserved : goal.loop-row-preserved
loop-row-preserved c =
    let l = c.loop-row in
    let xs = c.args.placed.now in
    let x = c.row-item.result in
    place_more xs l.row-index x c.args.rows.now l.rows c.put_for.new.rows (drop_next xs l.row-index x c.loop-row-test.true c.row-item.is) c.in_ok-put_for.ensures.ok l.invariant

pub returns : goal.returns
returns c =
    let l = c.loop-row in
    let xs = c.args.placed.now in
    place_end xs l.row-index c.args.rows.now l.rows (drop_of_length-le xs c.loop-row-test.false) l.invariant
