use Rattle.std.proofs.Common.{◌∙◌, ap}
use Rattle.std.specs.List.{list_any}
use Rattle.std.specs.Ordering.{is_eq}
use Rattle.std.specs.BTreeSet.{contains}
use Rattle.presence_base.specs.Order.{dot_cmp, same_dot}
use Rattle.orswot_core.specs.Checks.{dots_of}
use Rattle.orswot_core.proofs.GatherFacts.{told_some}
use Rattle.tracker_known.proofs.MergeLemmas.{dots_before, dots_after, dots_at_end}
use Rattle.tracker_known.proofs.merge_turn.live_dots.Goals as goal

pub loop-row-init : goal.loop-row-init
loop-row-init c = λ q. dots_before (contains dot_cmp c.new-dots.result q) (list_any (same_dot q) (dots_of c.args.live.now)) (ap (list_any (λ k. is_eq (dot_cmp q k))) c.new-dots.ensures.empty)

pub loop-row-preserved : goal.loop-row-preserved
loop-row-preserved c = λ q.
    let l = c.loop-row in
    let x = c.row-item.result in
    dots_after c.args.live.now l.row-index x q (contains dot_cmp l.dots q) (contains dot_cmp c.insert.new.self q) c.loop-row-test.true c.row-item.is (c.in_ok-insert.ensures.updates.0 q)
    ∙ l.invariant q

pub returns : goal.returns
returns c = λ q.
    let l = c.loop-row in
    dots_at_end c.args.live.now l.row-index q (contains dot_cmp l.dots q) c.loop-row-test.false
    ∙ (l.invariant q ∙ told_some q c.args.live.now)
