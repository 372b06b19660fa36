use Rattle.std.proofs.Common.{◌∙◌, take}
use Rattle.presence_journal.specs.History.{Begin, onto, told_removed}
use Rattle.presence_journal_walks.proofs.LoopLemmas.{removed_none, removed_more, or_kept, or_asked}
use Rattle.presence_journal_walks.proofs.changing.was_told_removed.Goals as goal
use Rattle.presence_journal_walks.proofs.changing.was_told_removed.Goals.{then-removed, else-removed}

pub loop-place-init : goal.loop-place-init
loop-place-init c = removed_none c.args.start.now c.args.dot.now c.removes-removed.result c.removes-removed.ensures

pub loop-place-preserved : goal.loop-place-preserved
loop-place-preserved c =
    let s = c.args.start.now in
    let es = c.args.entries.now in
    let i = c.loop-place.place in
    let e = c.index-entries-place.result in
    let d = c.args.dot.now in
    let b = c.loop-place.removed in
    let x = told_removed (onto (Begin s) (take i es)) e.step d in
    removed_more s es i e d b c.if-removed.removed c.loop-place-test.true c.index-entries-place.is
    (elim c.if-removed.branch [
      | then-removed w ↦ or_kept b x c.if-removed.removed w.removed-is w.if-removed.true
      | else-removed w ↦ or_asked b x c.if-removed.removed (w.removed-is ∙ w.tells_removed-removed.ensures) w.if-removed.false
    ])
    c.loop-place.invariant
