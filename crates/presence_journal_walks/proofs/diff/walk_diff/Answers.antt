use Rattle.std.proofs.Common.{◌≡◌, ◌<◌, ◌+◌, length, take, ◌∙◌, sym, ap, subst, arith}
use Rattle.std.proofs.lemmas.Result.{IfOk-weaker}
use Rattle.std.specs.BTreeMap.{get}
use Rattle.presence_base.specs.Order.{dot_cmp}
use Rattle.presence_journal.specs.declared.entry.Start.{Start}
use Rattle.presence_journal.specs.History.{History, Begin, onto}
use Rattle.presence_journal.specs.Table.{IsLegal}
use Rattle.presence_journal.specs.Queue.{diff_at}
use Rattle.presence_journal.specs.Walk.{shown_of}
use Rattle.presence_journal.proofs.Diffs.{legal_front, diff_at_place}
use Rattle.presence_journal_known.specs.ByDot.{Alike}
use Rattle.presence_journal_known.proofs.FrontLemmas.{front_next, entry_at}
use Rattle.presence_journal_walks.proofs.diff.walk_diff.Goals as goal

pub rows_of_entries-requires : goal.rows_of_entries-requires
rows_of_entries-requires c =
    let whole = ap (λ (s : Start). onto (Begin s) c.entries-entries.result.now) c.start.ensures ∙ c.entries-entries.ensures.history in
    legal_front (Begin c.start.result.now) c.entries-entries.result.now c.args.place (subst IsLegal (sym whole) c.entries-entries.ensures.legal)

pub rows_of_entries-requires-2 : goal.rows_of_entries-requires-2
rows_of_entries-requires-2 c =
    let whole = ap (λ (s : Start). onto (Begin s) c.entries-entries.result.now) c.start-2.ensures ∙ c.entries-entries.ensures.history in
    legal_front (Begin c.start-2.result.now) c.entries-entries.result.now (c.args.place + 1) (subst IsLegal (sym whole) c.entries-entries.ensures.legal)

pub returns : goal.returns
returns c =
    let s = c.start.result.now in
    let es = c.entries-entries.result.now in
    let i = c.args.place in
    let t = c.args.topic.now in
    let whole = ap (λ (b : Start). onto (Begin b) es) c.start.ensures ∙ c.entries-entries.ensures.history in
    let within : i < length es = omega (arith, c.requires, c.entries-entries.ensures.count) in
    let at = entry_at es i within in
    let one : c.start-2.result.now ≡ s = c.start-2.ensures ∙ sym c.start.ensures in
    let next = ap (λ (b : Start). onto (Begin b) (take (i + 1) es)) one ∙ front_next (Begin s) es i at.0 within at.1 in
    IfOk-weaker c.diff_rows.result _ _
    (λ x between. between (onto (Begin s) (take i es)) at.0 t c.in_ok-before.ensures (subst (λ (h : History). Alike (get dot_cmp c.in_ok-after.after) (shown_of h t)) next c.in_ok-after.ensures)
    ∙ (sym (diff_at_place s es i at.0 t within at.1) ∙ ap (λ (h : History). diff_at h i t) whole))
    c.diff_rows.ensures
