use Rattle.std.proofs.Common.{drop_of_length-le}
use Rattle.presence_journal.proofs.Walking.{drop_next}
use Rattle.tracker_feeds.proofs.AddLemmas.{add_first, add_more, add_end}
use Rattle.tracker_feeds.proofs.diffs.add_diffs.Goals as goal

pub loop-row-init : goal.loop-row-init
loop-row-init c = add_first c.args.feeds.now c.args.changes.now c.args.rows.now c.args.made.now

pub loop-row-preserved : goal.loop-row-preserved
loop-row-preserved c =
    let l = c.loop-row in
    let xs = c.args.rows.now in
    let x = c.row-item.result in
    add_more c.args.feeds.now c.args.changes.now xs l.row-index x c.args.made.now l.made c.add_diff.new.made (drop_next xs l.row-index x c.loop-row-test.true c.row-item.is) c.in_ok-add_diff.ensures l.invariant

pub returns : goal.returns
returns c =
    let l = c.loop-row in
    let xs = c.args.rows.now in
    add_end c.args.feeds.now c.args.changes.now xs l.row-index c.args.made.now l.made (drop_of_length-le xs c.loop-row-test.false) l.invariant
