use Rattle.tracker_known.proofs.KnownTurns.{turn_tick}
use Rattle.tracker_known.proofs.known.Known.turn_of_tick.Goals as goal

pub returns : goal.returns
returns c = turn_tick c.args.self.now c.args.now c.max-time.result _ c.max-time.ensures c.new.ensures.items c.in_ok-leaves.ensures
