use Rattle.std.proofs.Common.{sym, subst}
use Rattle.presence_journal.specs.declared.step.Step.TheVariants as steps_are
use Rattle.shard_pool.specs.Unseated.{IsBehindOf, IsMade}
use Rattle.shard_pool.specs.Seats.{IsOfShardAt}
use Rattle.shard_pool.proofs.Wrapped.{at_node, done_permdown}
use Rattle.shard_pool.proofs.pool.Pool.permdown.Goals as goal

pub returns-clause-lane : goal.returns-clause-lane
returns-clause-lane g c =
    let Here = IsOfShardAt c.args.self.now.own.name g.L.Lanes.begins c.args.shard in
    subst (λ r. IsBehindOf Here (λ h. IsMade h (steps_are.PermDown c.args.replica) r)) (sym c.into_answer.ensures) (done_permdown Here c.args.replica c.make.result.answer c.make.ensures)

pub returns-clause-some : goal.returns-clause-some
returns-clause-some g c =
    at_node c.args.self.now.own.name (g.L.Lanes.begins c.args.shard) (λ h. IsMade h (steps_are.PermDown c.args.replica) c.into_answer.result) (returns-clause-lane g c)
