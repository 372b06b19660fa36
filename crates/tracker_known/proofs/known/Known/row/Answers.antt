use Rattle.std.proofs.Common.{◌∙◌}
use Rattle.tracker_known.proofs.known.Known.row.Goals as goal

pub returns : goal.returns
returns c = λ h known. c.row.ensures ∙ known.set.live c.args.dot.now
