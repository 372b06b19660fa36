use Rattle.std.proofs.Common.{refl}
use Rattle.tracker_known.proofs.KnownLemmas.{follows_down, stays_by}
use Rattle.tracker_known.proofs.Results.{err_leaves}
use Rattle.tracker_known.proofs.known.Known.apply_down.Goals as goal

pub returns-in_err-permdown-clause-err : goal.returns-in_err-permdown-clause-err
returns-in_err-permdown-clause-err c = err_leaves c.from_residual.result (stays_by c.args.self.now (record { set = c.args.self.now.set; others = c.permdown.new.self; count = c.args.self.now.count }) refl c.in_err-permdown.ensures.err refl)

pub returns-clause-ok : goal.returns-clause-ok
returns-clause-ok c = follows_down c.args.self.now _ c.args.replica c.permdown.new.self.own c.permdown.ensures.own c.forget_other.ensures c.in_ok-permdown.ensures.ok refl
