use Rattle.std.proofs.Common.{◌≡◌, ◌∙◌, ◌||◌, ap, take}
use Rattle.presence_journal.specs.History.{Begin, onto, is_counted, told_covers, known}
use Rattle.presence_journal_known.proofs.FrontLemmas.{front_all}
use Rattle.presence_journal_known.proofs.KnownLemmas.{or_first, or_second, known_none, known_more}
use Rattle.presence_journal_known.proofs.known.is_known_after.Goals as goal
use Rattle.presence_journal_known.proofs.known.is_known_after.Goals.{then-is_known, else-is_known}

pub loop-place-init : goal.loop-place-init
loop-place-init c = known_none c.args.start.now c.args.entries.now c.args.dot.now c.covers-is_known.result c.requires c.covers-is_known.ensures

pub loop-place-preserved : goal.loop-place-preserved
loop-place-preserved c =
    let l = c.loop-place in
    let s = c.args.start.now in
    let es = c.args.entries.now in
    let d = c.args.dot.now in
    let e = c.index-entries-place.result in
    let h = onto (Begin s) (take l.place es) in
    let before = known h d in
    let more = is_counted c.own_after-own.result c.used_after-used.result d || told_covers h e.step d in
    let now : c.if-is_known.is_known ≡ (before || more) =
    elim c.if-is_known.branch [
      | then-is_known w ↦ or_first before more c.if-is_known.is_known (w.is_known-is ∙ l.invariant.known) (w.is_known-is ∙ w.if-is_known.true)
      | else-is_known w ↦ or_second before more l.is_known c.if-is_known.is_known l.invariant.known w.if-is_known.false (w.is_known-is ∙ w.makes_known-is_known.ensures)
    ] in
    known_more s es l.place e d l.is_known c.if-is_known.is_known l.own c.own_after-own.result l.used c.used_after-used.result c.requires c.loop-place-test.true c.index-entries-place.is c.own_after-own.ensures c.used_after-used.ensures now l.invariant

pub returns : goal.returns
returns c =
    let l = c.loop-place in
    l.invariant.known ∙ ap (λ h. known h c.args.dot.now) (front_all (Begin c.args.start.now) c.args.entries.now l.place c.loop-place-test.false)
