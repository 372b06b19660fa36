use Rattle.std.proofs.Common.{◌∙◌}
use Rattle.tracker_known.proofs.known.Known.covers.Goals as goal

pub returns : goal.returns
returns c = λ h known. c.covers.ensures ∙ known.set.covered c.args.dot.now
