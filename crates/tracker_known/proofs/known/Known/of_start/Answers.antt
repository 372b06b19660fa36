use Rattle.std.proofs.Common.{refl}
use Rattle.tracker_known.proofs.StartLemmas.{known_at}
use Rattle.tracker_known.proofs.known.Known.of_start.Goals as goal

pub returns : goal.returns
returns c = known_at c.args.start.now _ c.in_ok-set.ensures c.in_ok-others.ensures refl
