use Rattle.std.proofs.Common.{rules}
use Rattle.shard_pool.specs.Unseated.{IsDone}
use Rattle.shard_pool.proofs.AtNumber.{at_number, last_shard}
use Rattle.shard_pool.proofs.pool.Pool.make.Goals as goal

pub returns-in-0 : goal.returns-in-0
returns-in-0 g c =
    let pool = c.args.self.now in
    let call = c.args.call.now in
    at_number g.L.Lanes.begins g.L.First.Lane.begins c.args.shard g.L.First.Lane.node pool.own.name 0 (λ h. IsDone {A = g.row.Q-Answer.Denot} (g.Q.Call.there call) (g.Q.Call.gives call) h (g.Q.Call.step call) c.locked_make.result.answer) c.in-0.is pool.one_node.0 g.met.L.Lanes.first c.locked_make.ensures

pub returns-in-1 : goal.returns-in-1
returns-in-1 g c =
    let pool = c.args.self.now in
    let call = c.args.call.now in
    at_number g.L.Lanes.begins g.L.Second.Lane.begins c.args.shard g.L.Second.Lane.node pool.own.name 1 (λ h. IsDone {A = g.row.Q-Answer.Denot} (g.Q.Call.there call) (g.Q.Call.gives call) h (g.Q.Call.step call) c.locked_make-in-1.result.answer) c.in-1.is pool.one_node.1 g.met.L.Lanes.second c.locked_make-in-1.ensures

pub returns-in-2 : goal.returns-in-2
returns-in-2 g c =
    let pool = c.args.self.now in
    let call = c.args.call.now in
    at_number g.L.Lanes.begins g.L.Third.Lane.begins c.args.shard g.L.Third.Lane.node pool.own.name 2 (λ h. IsDone {A = g.row.Q-Answer.Denot} (g.Q.Call.there call) (g.Q.Call.gives call) h (g.Q.Call.step call) c.locked_make-in-2.result.answer) c.in-2.is pool.one_node.2 g.met.L.Lanes.third c.locked_make-in-2.ensures

pub returns-in_default : goal.returns-in_default
returns-in_default g c =
    let pool = c.args.self.now in
    let call = c.args.call.now in
    let last = last_shard c.args.shard pool.shards c.requires pool.some.1 (search rules) (search rules) (search rules) in
    at_number g.L.Lanes.begins g.L.Fourth.Lane.begins c.args.shard g.L.Fourth.Lane.node pool.own.name 3 (λ h. IsDone {A = g.row.Q-Answer.Denot} (g.Q.Call.there call) (g.Q.Call.gives call) h (g.Q.Call.step call) c.locked_make-in_default.result.answer) last pool.one_node.3 g.met.L.Lanes.fourth c.locked_make-in_default.ensures
