use Rattle.std.proofs.Common.{refl}
use Rattle.tracker_known.proofs.Results.{err_leaves}
use Rattle.tracker_known.proofs.OthersLemmas.{others_reborn, others_same}
use Rattle.tracker_known.proofs.others.Others.reborn.Goals as goal

pub returns-clause-ok : goal.returns-clause-ok
returns-clause-ok c = others_reborn c.args.incarnation c.args.self.now _ c.reborn-next.ensures refl c.in_ok-put_down.ensures.ok

pub returns-in_err-put_down-clause-err : goal.returns-in_err-put_down-clause-err
returns-in_err-put_down-clause-err c = err_leaves c.from_residual.result (others_same c.args.self.now _ refl refl c.in_err-put_down.ensures.err)
