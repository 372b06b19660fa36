use Rattle.tracker_known.proofs.known.Known.own.Goals as goal

pub returns : goal.returns
returns c = λ h known. known.others.own
