use Rattle.std.proofs.Common.{rules}
use Rattle.shard_pool.specs.Unseated.{IsMadeWhereQuiet}
use Rattle.shard_pool.proofs.AtNumber.{at_number, last_shard}
use Rattle.shard_pool.proofs.pool.Pool.checkpoint_where_quiet.Goals as goal

pub returns-in-0-clause-lane : goal.returns-in-0-clause-lane
returns-in-0-clause-lane g c =
    let pool = c.args.self.now in
    at_number g.L.Lanes.begins g.L.First.Lane.begins c.args.shard g.L.First.Lane.node pool.own.name 0 (λ h. IsMadeWhereQuiet c.args.due h c.locked_checkpoint_where_quiet.result) c.in-0.is pool.one_node.0 g.met.L.Lanes.first c.locked_checkpoint_where_quiet.ensures

pub returns-in-1-clause-lane : goal.returns-in-1-clause-lane
returns-in-1-clause-lane g c =
    let pool = c.args.self.now in
    at_number g.L.Lanes.begins g.L.Second.Lane.begins c.args.shard g.L.Second.Lane.node pool.own.name 1 (λ h. IsMadeWhereQuiet c.args.due h c.locked_checkpoint_where_quiet-in-1.result) c.in-1.is pool.one_node.1 g.met.L.Lanes.second c.locked_checkpoint_where_quiet-in-1.ensures

pub returns-in-2-clause-lane : goal.returns-in-2-clause-lane
returns-in-2-clause-lane g c =
    let pool = c.args.self.now in
    at_number g.L.Lanes.begins g.L.Third.Lane.begins c.args.shard g.L.Third.Lane.node pool.own.name 2 (λ h. IsMadeWhereQuiet c.args.due h c.locked_checkpoint_where_quiet-in-2.result) c.in-2.is pool.one_node.2 g.met.L.Lanes.third c.locked_checkpoint_where_quiet-in-2.ensures

pub returns-in_default-clause-lane : goal.returns-in_default-clause-lane
returns-in_default-clause-lane g c =
    let pool = c.args.self.now in
    let last = last_shard c.args.shard pool.shards c.requires pool.some.1 (search rules) (search rules) (search rules) in
    at_number g.L.Lanes.begins g.L.Fourth.Lane.begins c.args.shard g.L.Fourth.Lane.node pool.own.name 3 (λ h. IsMadeWhereQuiet c.args.due h c.locked_checkpoint_where_quiet-in_default.result) last pool.one_node.3 g.met.L.Lanes.fourth c.locked_checkpoint_where_quiet-in_default.ensures
