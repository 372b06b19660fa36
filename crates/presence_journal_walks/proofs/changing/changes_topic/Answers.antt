use Rattle.std.proofs.Common.{◌≡◌, Bool, refl, ◌∙◌, ap}
use Rattle.presence_base.specs.declared.dots.Dot.{Dot}
use Rattle.presence_journal.specs.History.{Begin, onto}
use Rattle.presence_journal.proofs.Walking.{reached_none}
use Rattle.presence_journal_known.proofs.StatusLemmas.{passed_more}
use Rattle.presence_journal_walks.specs.Changes.{rows_told, differs, any_of, any_told}
use Rattle.presence_journal_walks.proofs.LoopLemmas.{any_none, any_more, or_kept, or_asked}
use Rattle.presence_journal_walks.proofs.changing.changes_topic.Goals as goal
use Rattle.presence_journal_walks.proofs.changing.changes_topic.Goals.{then-changes, else-changes}

pub loop-entry-init : goal.loop-entry-init
loop-entry-init c =
    let s = c.args.start.now in
    let es = c.args.after.now in
    let p : Dot → Bool = differs (onto (Begin s) c.args.before.now) (onto (Begin s) es) c.args.topic.now in
    let b = c.any_of-changes.result in
    reached_none s (onto (Begin s) es) es (λ h. b ≡ any_told p h) refl (any_none p s b (c.any_of-changes.ensures ∙ ap (any_of p) c.live.ensures.live))

pub loop-entry-preserved : goal.loop-entry-preserved
loop-entry-preserved c =
    let l = c.loop-entry in
    let s = c.args.start.now in
    let es = c.args.after.now in
    let e = c.entry-item.result in
    let b = l.changes in
    let p : Dot → Bool = differs (onto (Begin s) c.args.before.now) (onto (Begin s) es) c.args.topic.now in
    let x : Bool = any_of p (rows_told e.step) in
    passed_more (onto (Begin s) es) es l.entry-index e (λ h. b ≡ any_told p h) (λ h. c.if-changes.changes ≡ any_told p h) c.loop-entry-test.true c.entry-item.is
    (λ h. any_more p h e b c.if-changes.changes
    (elim c.if-changes.branch [
      | then-changes w ↦ or_kept b x c.if-changes.changes w.changes-is w.if-changes.true
      | else-changes w ↦ or_asked b x c.if-changes.changes (w.changes-is ∙ w.any_differs-changes.ensures) w.if-changes.false
    ]))
    l.invariant
