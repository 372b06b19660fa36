use Rattle.tracker_known.proofs.KnownLemmas.{top_is}
use Rattle.tracker_known.proofs.known.Known.top.Goals as goal

pub returns : goal.returns
returns c = λ h known. top_is h c.args.self.now c.args.replica.now c.top.result c.top.ensures.below c.top.ensures.next known
