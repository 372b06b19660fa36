use Rattle.tracker_known.proofs.KnownTurns.{turn_own}
use Rattle.tracker_known.proofs.known.Known.turn_of_own.Goals as goal

pub returns : goal.returns
returns c = turn_own c.args.self.now c.args.entry.now _ c.requires c.in_ok-joins.ensures c.in_ok-leaves.ensures
