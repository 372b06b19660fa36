use Rattle.std.proofs.Common.{◌∙◌, ap, sym, subst}
use Rattle.std.proofs.lemmas.Result.{IfOk-weaker}
use Rattle.presence_journal.specs.declared.entry.Start.{Start}
use Rattle.presence_journal.specs.History.{History, Begin, onto}
use Rattle.presence_journal.specs.Table.{IsLegal}
use Rattle.presence_journal.specs.Present.{present}
use Rattle.presence_journal.specs.Walk.{keyed, shown_of}
use Rattle.presence_journal.proofs.PresentLemmas.{get-present}
use Rattle.presence_journal_walks.proofs.lists.walk_list.Goals as goal

pub rows_of_entries-requires : goal.rows_of_entries-requires
rows_of_entries-requires c = subst IsLegal (sym (ap (λ (s : Start). onto (Begin s) c.entries.result.now) c.start.ensures ∙ c.entries.ensures.history)) c.entries.ensures.legal

pub returns : goal.returns
returns c =
    let whole = ap (λ (s : Start). onto (Begin s) c.entries.result.now) c.start.ensures ∙ c.entries.ensures.history in
    IfOk-weaker c.in_place.result _ _
    (λ v is. is (present c.args.journal.now c.args.topic.now) (λ p. get-present c.args.journal.now c.args.topic.now p ∙ ap (keyed p.key) (sym (c.in_ok-rows.ensures p.dot ∙ ap (λ (h : History). shown_of h c.args.topic.now p.dot) whole))))
    c.in_place.ensures
