use Rattle.std.proofs.Common.{◌∙◌}
use Rattle.tracker_known.proofs.OthersLemmas.{status_kept}
use Rattle.tracker_known.proofs.known.Known.status.Goals as goal

pub returns : goal.returns
returns c = λ h known. c.status.ensures ∙ status_kept h c.args.self.now.others c.args.replica.now known.others
