use Rattle.std.proofs.Common.{refl}
use Rattle.tracker_known.proofs.Results.{on_ok, on_err}
use Rattle.tracker_known.proofs.KnownLemmas.{follows_merge, stays_set}
use Rattle.tracker_known.proofs.known.Known.apply_merge.Goals as goal

pub returns-clause-ok : goal.returns-clause-ok
returns-clause-ok c = on_ok c.join_heard.result (λ takes. follows_merge c.args.self.now _ c.args.told.now takes refl refl) c.join_heard.ensures.ok

pub returns-clause-err : goal.returns-clause-err
returns-clause-err c = on_err c.join_heard.result (λ same. stays_set c.args.self.now _ same refl refl) c.join_heard.ensures.err
