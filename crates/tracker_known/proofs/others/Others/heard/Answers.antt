use Rattle.std.proofs.Common.{refl, sym, ◌∙◌, ap, cond}
use Rattle.presence_base.specs.Order.{same_replica}
use Rattle.replica_status.specs.Boards.{standing_in}
use Rattle.replica_status.specs.Table.{heard_at}
use Rattle.tracker_known.proofs.OthersLemmas.{heard_other, heard_own, others_same}
use Rattle.tracker_known.proofs.Results.{err_leaves}
use Rattle.tracker_known.proofs.others.Others.heard.Goals as goal

pub returns-then-is_same-clause-ok : goal.returns-then-is_same-clause-ok
returns-then-is_same-clause-ok c = heard_own c.args.replica c.args.now c.args.self.now _ (sym c.is_same.ensures ∙ c.if-is_same.true) refl c.max-time.ensures refl

pub returns-clause-ok : goal.returns-clause-ok
returns-clause-ok c =
    heard_other c.args.replica c.args.now c.args.self.now _ (sym c.is_same.ensures ∙ c.if-is_same.false) refl c.max-time.ensures
    (λ q.
    c.in_ok-heard.ensures.ok q
    ∙ ap (λ t. cond (same_replica c.args.replica q) (heard_at t (standing_in c.args.self.now.standings c.args.replica)) (standing_in c.args.self.now.standings q)) c.max-time.ensures)

pub returns-in_err-heard-clause-err : goal.returns-in_err-heard-clause-err
returns-in_err-heard-clause-err c = err_leaves c.from_residual.result (others_same c.args.self.now _ refl refl c.in_err-heard.ensures.err)
