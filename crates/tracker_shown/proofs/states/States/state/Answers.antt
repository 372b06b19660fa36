use Rattle.std.proofs.Common.{sym}
use Rattle.tracker_shown.proofs.StateLemmas.{same_written}
use Rattle.tracker_shown.proofs.states.States.state.Goals as goal

pub returns-in_err-share-in-Some-clause-same : goal.returns-in_err-share-in-Some-clause-same
returns-in_err-share-in-Some-clause-same c =
    let new = c.write_text.new.state in
    same_written c.args.self.now.kept (c.get_mut.follows.lender new) c.args.topic.now c.in-Some.state.now new (sym c.in-Some.ensures.value) (c.get_mut.follows.holds new) c.write_text.ensures

pub returns-in_ok-share-in-Some-clause-same : goal.returns-in_ok-share-in-Some-clause-same
returns-in_ok-share-in-Some-clause-same c =
    let new = c.write_text.new.state in
    same_written c.args.self.now.kept (c.get_mut.follows.lender new) c.args.topic.now c.in-Some.state.now new (sym c.in-Some.ensures.value) (c.get_mut.follows.holds new) c.write_text.ensures
