use Rattle.std.proofs.Common.{drop, ◌+◌, refl, ◌&&◌, not}
use Rattle.std.specs.BTreeSet.{contains}
use Rattle.presence_base.specs.Order.{dot_cmp, same_dot}
use Rattle.tracker_known.specs.Picks.{shows_told, out_extras}
use Rattle.tracker_known.proofs.GatherLemmas.{still_step, still_end}
use Rattle.tracker_known.proofs.MergeLemmas.{extras_split, extras_done}
use Rattle.tracker_known.proofs.merge_turn.gather_extras.Goals as goal

pub loop-dot-init : goal.loop-dot-init
loop-dot-init c = λ q. refl

pub loop-dot-preserved : goal.loop-dot-preserved
loop-dot-preserved c =
    let l = c.loop-dot in
    let xs = c.args.extras.now in
    let x = c.dot-item.result in
    let o = c.args.others.now in
    let told = c.args.told.now in
    still_step c.args.set.now.live (out_extras o told (drop l.dot-index xs)) (λ q. shows_told o q.replica && (same_dot q x && not (contains dot_cmp told q))) (out_extras o told (drop (l.dot-index + 1) xs)) (out_extras o told xs) c.args.rows.now l.rows c.gather_extra.new.rows
    (extras_split o told xs l.dot-index x c.loop-dot-test.true c.dot-item.is) c.in_ok-gather_extra.ensures l.invariant

pub returns : goal.returns
returns c =
    let l = c.loop-dot in
    let xs = c.args.extras.now in
    let o = c.args.others.now in
    let told = c.args.told.now in
    still_end c.args.set.now.live (out_extras o told (drop l.dot-index xs)) (out_extras o told xs) c.args.rows.now l.rows (extras_done o told xs l.dot-index c.loop-dot-test.false) l.invariant
