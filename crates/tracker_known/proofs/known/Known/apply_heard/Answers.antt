use Rattle.std.proofs.Common.{refl}
use Rattle.tracker_known.proofs.Results.{on_ok, on_err}
use Rattle.tracker_known.proofs.KnownLemmas.{follows_heard, stays_by}
use Rattle.tracker_known.proofs.known.Known.apply_heard.Goals as goal

pub returns-clause-ok : goal.returns-clause-ok
returns-clause-ok c = on_ok c.heard.result (λ others. follows_heard c.args.self.now _ c.args.replica c.args.now refl others refl) c.heard.ensures.ok

pub returns-clause-err : goal.returns-clause-err
returns-clause-err c = on_err c.heard.result (λ others. stays_by c.args.self.now _ refl others refl) c.heard.ensures.err
