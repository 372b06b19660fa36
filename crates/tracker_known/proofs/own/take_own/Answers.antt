use Rattle.tracker_known.proofs.SetLemmas.{takes_rest}
use Rattle.tracker_known.proofs.own.take_own.Goals as goal

pub returns-in_default-clause-ok : goal.returns-in_default-clause-ok
returns-in_default-clause-ok c =
    let d = c.in_default in
    takes_rest c.args.entry.now c.args.next c.args.set.now c.requires.own d.not-Added d.not-Replaced d.not-Removed
