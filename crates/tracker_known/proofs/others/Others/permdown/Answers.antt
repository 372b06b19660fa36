use Rattle.std.proofs.Common.{refl, sym, ◌∙◌}
use Rattle.tracker_known.proofs.Results.{on_ok, on_err}
use Rattle.tracker_known.proofs.OthersLemmas.{down_other, down_own, others_same}
use Rattle.tracker_known.proofs.others.Others.permdown.Goals as goal

pub returns-then-is_same-clause-ok : goal.returns-then-is_same-clause-ok
returns-then-is_same-clause-ok c = down_own c.args.replica.now c.args.self.now (sym c.is_same.ensures ∙ c.if-is_same.true)

pub returns-clause-ok : goal.returns-clause-ok
returns-clause-ok c = on_ok c.put_down.result (λ puts. down_other c.args.replica.now c.args.self.now _ (sym c.is_same.ensures ∙ c.if-is_same.false) refl refl puts) c.put_down.ensures.ok

pub returns-clause-err : goal.returns-clause-err
returns-clause-err c = on_err c.put_down.result (λ same. others_same c.args.self.now _ refl refl same) c.put_down.ensures.err
