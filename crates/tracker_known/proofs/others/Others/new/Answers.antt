use Rattle.std.proofs.Common.{refl}
use Rattle.tracker_known.proofs.OthersLemmas.{none_yet}
use Rattle.tracker_known.proofs.others.Others.new.Goals as goal

pub returns : goal.returns
returns c = none_yet c.args.own _ refl refl c.new.ensures
