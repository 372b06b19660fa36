use Rattle.tracker_known.proofs.KnownLemmas.{known_begins}
use Rattle.std.proofs.Common.{refl}
use Rattle.tracker_known.proofs.known.Known.new.Goals as goal

pub returns : goal.returns
returns c = known_begins c.args.own _ c.new.ensures c.new-2.ensures refl
