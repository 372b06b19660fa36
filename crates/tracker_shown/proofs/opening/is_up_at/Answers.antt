use Rattle.std.proofs.Common.{sym, ap, ◌∙◌}
use Rattle.replica_status.specs.declared.standing.Standing.{Standing}
use Rattle.replica_status.specs.Table.{status_of}
use Rattle.tracker_shown.proofs.OpeningLemmas.{own_up, other_up}
use Rattle.tracker_shown.proofs.opening.is_up_at.Goals as goal

pub returns-then-is_own : goal.returns-then-is_own
returns-then-is_own c = own_up c.args.start.now c.args.dot.now.replica (sym c.is_own.ensures ∙ c.if-is_own.true)

pub returns : goal.returns
returns c =
    c.is_up_status.ensures
    ∙ other_up c.args.start.now c.args.dot.now.replica c.status.result (sym c.is_own.ensures ∙ c.if-is_own.false)
    (c.status.ensures ∙ ap (λ (x : Standing). status_of x) c.standing-standing.ensures)
