use Rattle.tracker_known.proofs.known.Known.count.Goals as goal

pub returns : goal.returns
returns c = λ h known. known.count
