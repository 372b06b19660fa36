use Rattle.tracker_known.proofs.Results.{on_ok}
use Rattle.tracker_known.proofs.SetLemmas.{merged}
use Rattle.tracker_known.proofs.own.join_heard.Goals as goal

pub returns-clause-ok : goal.returns-clause-ok
returns-clause-ok c = on_ok c.join_some.result (λ takes. merged c.args.set.now c.args.others.now c.args.told.now c.join_some.new.self takes) c.join_some.ensures.ok
