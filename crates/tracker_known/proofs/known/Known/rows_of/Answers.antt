use Rattle.tracker_known.proofs.KnownLemmas.{rows_are}
use Rattle.tracker_known.proofs.known.Known.rows_of.Goals as goal

pub returns : goal.returns
returns c = λ h known. rows_are h c.args.self.now c.args.replica.now c.rows_of.result c.rows_of.ensures known
