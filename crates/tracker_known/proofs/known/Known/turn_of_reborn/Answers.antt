use Rattle.tracker_known.proofs.ToldAgainLemmas.{turn_reborn}
use Rattle.tracker_known.proofs.known.Known.turn_of_reborn.Goals as goal

pub returns : goal.returns
returns c = turn_reborn c.args.self.now c.args.entry.now _ c.reborn_pairs-pairs.result.now c.requires c.reborn_pairs-pairs.ensures c.in_ok-joins.ensures c.in_ok-leaves.ensures
