use Rattle.std.proofs.Common.{sym, ◌∙◌, ap, not}
use Rattle.presence_base.specs.Order.{same_replica}
use Rattle.presence_journal.specs.History.{Begin, onto, is_gone}
use Rattle.presence_journal_known.proofs.StatusLemmas.{hears_not_own, hears_other}
use Rattle.presence_journal_known.proofs.statuses.hears_after.Goals as goal

pub returns-then-is_same : goal.returns-then-is_same
returns-then-is_same c =
    let r = c.args.replica.now in
    let s = c.args.start.now in
    hears_not_own (onto (Begin s) c.args.entries.now) r (ap (same_replica r) (sym c.own_of-own.ensures) ∙ (sym c.is_same.ensures ∙ c.if-is_same.true))

pub returns : goal.returns
returns c =
    let r = c.args.replica.now in
    let s = c.args.start.now in
    ap not (c.is_gone.ensures ∙ ap is_gone c.status_after-status.ensures)
    ∙ hears_other (onto (Begin s) c.args.entries.now) r (ap (same_replica r) (sym c.own_of-own.ensures) ∙ (sym c.is_same.ensures ∙ c.if-is_same.false))
