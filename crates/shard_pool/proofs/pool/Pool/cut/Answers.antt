use Rattle.std.proofs.Common.{sym, subst}
use Rattle.shard_pool.specs.Unseated.{IsBehindOf, IsCutMade}
use Rattle.shard_pool.specs.Seats.{IsOfShardAt}
use Rattle.shard_pool.proofs.Wrapped.{at_node, done_cut}
use Rattle.shard_pool.proofs.pool.Pool.cut.Goals as goal

pub returns-clause-lane : goal.returns-clause-lane
returns-clause-lane g c =
    let Here = IsOfShardAt c.args.self.now.own.name g.L.Lanes.begins c.args.shard in
    subst (λ r. IsBehindOf Here (λ h. IsCutMade h r)) (sym c.into_answer.ensures) (done_cut Here c.make.result.answer c.make.ensures)

pub returns-clause-some : goal.returns-clause-some
returns-clause-some g c =
    at_node c.args.self.now.own.name (g.L.Lanes.begins c.args.shard) (λ h. IsCutMade h c.into_answer.result) (returns-clause-lane g c)
