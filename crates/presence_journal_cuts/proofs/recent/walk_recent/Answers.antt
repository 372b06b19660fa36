use Rattle.std.proofs.Common.{◌+◌, ap, sym, subst, ◌∙◌}
use Rattle.std.specs.BTreeMap.{get}
use Rattle.presence_base.specs.Order.{dot_cmp}
use Rattle.presence_journal.specs.declared.entry.Start.{Start}
use Rattle.presence_journal.specs.History.{History, Begin, onto}
use Rattle.presence_journal.specs.Table.{IsLegal}
use Rattle.presence_journal.proofs.Diffs.{legal_front}
use Rattle.presence_journal_known.proofs.FrontLemmas.{front_all}
use Rattle.presence_journal_cuts.specs.Cuts.{recent}
use Rattle.presence_journal_cuts.proofs.Histories.{recent-begin, recent_on}
use Rattle.presence_journal_cuts.proofs.recent.walk_recent.Goals as goal

pub loop-place-init : goal.loop-place-init
loop-place-init c = λ d. c.in_ok-rows.ensures d ∙ sym (recent-begin c.start-start.result.now d)

pub next_rows-requires : goal.next_rows-requires
next_rows-requires c =
    let s = c.start-start.result.now in
    let es = c.entries-entries.result.now in
    let whole = ap (λ (b : Start). onto (Begin b) es) c.start-start.ensures ∙ c.entries-entries.ensures.history in
    legal_front (Begin s) es (c.loop-place.place + 1) (subst IsLegal (sym whole) c.entries-entries.ensures.legal)

pub loop-place-preserved : goal.loop-place-preserved
loop-place-preserved c =
    let l = c.loop-place in
    recent_on c.start-start.result.now c.entries-entries.result.now l.place c.index-entries-place.result (get dot_cmp l.rows) (get dot_cmp c.next_rows.new.rows) c.loop-place-test.true c.index-entries-place.is c.in_ok-next_rows.ensures l.invariant

pub returns : goal.returns
returns c =
    let s = c.start-start.result.now in
    let es = c.entries-entries.result.now in
    let whole = ap (λ (b : Start). onto (Begin b) es) c.start-start.ensures ∙ c.entries-entries.ensures.history in
    λ d. c.loop-place.invariant d ∙ ap (λ (h : History). recent h d) (front_all (Begin s) es c.loop-place.place c.loop-place-test.false ∙ whole)
