use Rattle.std.proofs.Common.{drop, ◌+◌, refl, ◌&&◌}
use Rattle.tracker_known.specs.Picks.{shows_told, out_of, out_ranges}
use Rattle.tracker_known.proofs.GatherLemmas.{still_step, still_end}
use Rattle.tracker_known.proofs.MergeLemmas.{ranges_split, ranges_done}
use Rattle.tracker_known.proofs.merge_turn.gather_ranges.Goals as goal

pub loop-range-init : goal.loop-range-init
loop-range-init c = λ q. refl

pub loop-range-preserved : goal.loop-range-preserved
loop-range-preserved c =
    let l = c.loop-range in
    let xs = c.args.ranges.now in
    let x = c.range-item.result in
    let o = c.args.others.now in
    let told = c.args.told.now in
    still_step c.args.set.now.live (out_ranges o told (drop l.range-index xs)) (λ q. shows_told o q.replica && out_of told x q) (out_ranges o told (drop (l.range-index + 1) xs)) (out_ranges o told xs) c.args.rows.now l.rows c.gather_shown_range.new.rows
    (ranges_split o told xs l.range-index x c.loop-range-test.true c.range-item.is) c.in_ok-gather_shown_range.ensures l.invariant

pub returns : goal.returns
returns c =
    let l = c.loop-range in
    let xs = c.args.ranges.now in
    let o = c.args.others.now in
    let told = c.args.told.now in
    still_end c.args.set.now.live (out_ranges o told (drop l.range-index xs)) (out_ranges o told xs) c.args.rows.now l.rows (ranges_done o told xs l.range-index c.loop-range-test.false) l.invariant
