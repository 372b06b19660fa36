use Rattle.dot_context.proofs.OuterFacts.{room_closed}
use Rattle.dot_context.proofs.replicas.close_room.Goals as goal

pub returns-clause-compact : goal.returns-clause-compact
returns-clause-compact c = room_closed c.args.replicas.now c.sweep_all.new.replicas c.args.others.now c.requires c.sweep_all.ensures.some c.sweep_all.ensures.sweeps
