use Rattle.dot_context.specs.Runs.{begins}
use Rattle.dot_context.specs.Sets.{runs_at, runs_in}
use Rattle.dot_context.proofs.LoopFacts.{loose}
use Rattle.dot_context.proofs.OuterFacts.{room_made, compact_swept}
use Rattle.dot_context.proofs.replicas.open_all.Goals as goal

pub room_for_all-requires-clause-apart : goal.room_for_all-requires-clause-apart
room_for_all-requires-clause-apart c = λ q. loose 0 (runs_at c.args.replicas.now q) (c.requires.compact.runs q)

pub returns-in-Ok-clause-ok : goal.returns-in-Ok-clause-ok
returns-in-Ok-clause-ok c = room_made c.args.replicas.now c.room_for_all.new.replicas c.args.others.now c.requires.compact c.requires.others c.in-Ok.ensures.some c.in-Ok.ensures.opens c.in-Ok.ensures.ok

pub returns-in-Err-clause-err : goal.returns-in-Err-clause-err
returns-in-Err-clause-err c =
    compact_swept c.args.replicas.now c.room_for_all.new.replicas c.sweep_all.new.replicas (λ q. begins (runs_in c.args.others.now.entries q)) c.requires.compact c.sweep_all.ensures.some c.in-Err.ensures.opens c.sweep_all.ensures.sweeps
