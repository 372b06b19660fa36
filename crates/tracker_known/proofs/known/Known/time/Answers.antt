use Rattle.tracker_known.proofs.known.Known.time.Goals as goal

pub returns : goal.returns
returns c = λ h known. known.others.time
