use Rattle.std.proofs.Common.{sym, ◌∙◌, ap}
use Rattle.presence_base.specs.Order.{same_replica}
use Rattle.replica_status.specs.declared.standing.Standing.{Standing}
use Rattle.replica_status.specs.Table.{status_of}
use Rattle.presence_journal.specs.History.{Begin, onto}
use Rattle.presence_journal_known.proofs.StatusLemmas.{status_up, status_other}
use Rattle.presence_journal_known.proofs.statuses.status_after.Goals as goal

pub returns-then-is_same : goal.returns-then-is_same
returns-then-is_same c =
    let r = c.args.replica.now in
    let s = c.args.start.now in
    status_up (onto (Begin s) c.args.entries.now) r (ap (same_replica r) (sym c.own_of-own.ensures) ∙ (sym c.is_same.ensures ∙ c.if-is_same.true))

pub returns : goal.returns
returns c =
    let r = c.args.replica.now in
    let s = c.args.start.now in
    c.status.ensures
    ∙ (ap (λ (x : Standing). status_of x) c.standing_after.ensures
    ∙ status_other (onto (Begin s) c.args.entries.now) r (ap (same_replica r) (sym c.own_of-own.ensures) ∙ (sym c.is_same.ensures ∙ c.if-is_same.false)))
