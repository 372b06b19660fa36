use Rattle.dot_context.specs.Runs.{holds}
use Rattle.dot_context.specs.Sets.{runs_at}
use Rattle.dot_context.proofs.OuterFacts.{room_filled}
use Rattle.dot_context.proofs.replicas.fill_room.Goals as goal

pub returns-clause-compact : goal.returns-clause-compact
returns-clause-compact c = room_filled c.args.replicas.now c.fill_all.new.replicas c.args.others.now (λ q. holds (runs_at c.args.others.now q)) c.requires c.fill_all.ensures.some c.fill_all.ensures.fills
