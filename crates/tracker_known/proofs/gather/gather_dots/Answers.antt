use Rattle.std.proofs.Common.{drop, ◌+◌, refl}
use Rattle.presence_base.specs.Order.{same_dot}
use Rattle.presence_journal.specs.History.{has_dot}
use Rattle.tracker_known.proofs.GatherLemmas.{still_step, still_end, dots_split, dots_done}
use Rattle.tracker_known.proofs.gather.gather_dots.Goals as goal

pub loop-dot-init : goal.loop-dot-init
loop-dot-init c = λ q. refl

pub loop-dot-preserved : goal.loop-dot-preserved
loop-dot-preserved c =
    let l = c.loop-dot in
    let ds = c.args.dots.now in
    let d = c.dot-item.result in
    still_step c.args.set.now.live (has_dot (drop l.dot-index ds)) (λ q. same_dot q d) (has_dot (drop (l.dot-index + 1) ds)) (has_dot ds) c.args.rows.now l.rows c.gather_dot.new.rows
    (dots_split ds l.dot-index d c.loop-dot-test.true c.dot-item.is) c.in_ok-gather_dot.ensures l.invariant

pub returns : goal.returns
returns c =
    let l = c.loop-dot in
    let ds = c.args.dots.now in
    still_end c.args.set.now.live (has_dot (drop l.dot-index ds)) (has_dot ds) c.args.rows.now l.rows (dots_done ds l.dot-index c.loop-dot-test.false) l.invariant
