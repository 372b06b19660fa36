use Rattle.std.proofs.Common.{subst}
use Rattle.shard_pool.specs.Seats.{Hands, CalledAt, IsOfShardAt, shard_of}
use Rattle.shard_pool.proofs.Calling.{called_first, called_second, called_third, called_fourth}
use Rattle.shard_pool.proofs.pool.Pool.call.Goals as goal

pub returns-then-shard-eq0 : goal.returns-then-shard-eq0
returns-then-shard-eq0 g c =
    let pool = c.args.self.now in
    let seat = c.seat.inside in
    let call = c.args.call.now in
    let old : Hands = record { number = seat.number; first = seat.first; second = seat.second; third = seat.third; fourth = seat.fourth } in
    let new : Hands = record { number = seat.number; first = c.locked_call.new.part; second = seat.second; third = seat.third; fourth = seat.fourth } in
    subst (λ (h : Hands). CalledAt {A = g.row.Q-Answer.Denot} (IsOfShardAt pool.own.name g.L.Lanes.begins) (g.Q.Call.there call) h new (shard_of c.args.topic.now pool.shards) (g.Q.Call.step call) (g.Q.Call.gives call) c.locked_call.result.answer) c.seat.view_is
    (called_first g.L.Lanes.begins g.L.First.Lane.begins pool.own.name g.L.First.Lane.node c.args.topic.now pool.shards c.shard_of-shard.result (g.Q.Call.there call) old c.locked_call.new.part (g.Q.Call.step call) (g.Q.Call.gives call) c.locked_call.result.answer
    g.met.L.Lanes.first pool.one_node.0 c.shard_of-shard.ensures c.if-shard-eq0.true c.seat.invariant c.locked_call.ensures)

pub returns-then-shard-eq1 : goal.returns-then-shard-eq1
returns-then-shard-eq1 g c =
    let pool = c.args.self.now in
    let seat = c.seat.inside in
    let call = c.args.call.now in
    let old : Hands = record { number = seat.number; first = seat.first; second = seat.second; third = seat.third; fourth = seat.fourth } in
    let new : Hands = record { number = seat.number; first = seat.first; second = c.locked_call-then-shard-eq1.new.part; third = seat.third; fourth = seat.fourth } in
    subst (λ (h : Hands). CalledAt {A = g.row.Q-Answer.Denot} (IsOfShardAt pool.own.name g.L.Lanes.begins) (g.Q.Call.there call) h new (shard_of c.args.topic.now pool.shards) (g.Q.Call.step call) (g.Q.Call.gives call) c.locked_call-then-shard-eq1.result.answer) c.seat.view_is
    (called_second g.L.Lanes.begins g.L.Second.Lane.begins pool.own.name g.L.Second.Lane.node c.args.topic.now pool.shards c.shard_of-shard.result (g.Q.Call.there call) old c.locked_call-then-shard-eq1.new.part (g.Q.Call.step call) (g.Q.Call.gives call) c.locked_call-then-shard-eq1.result.answer
    g.met.L.Lanes.second pool.one_node.1 c.shard_of-shard.ensures c.if-shard-eq1.true c.seat.invariant c.locked_call-then-shard-eq1.ensures)

pub returns-then-shard-eq2 : goal.returns-then-shard-eq2
returns-then-shard-eq2 g c =
    let pool = c.args.self.now in
    let seat = c.seat.inside in
    let call = c.args.call.now in
    let old : Hands = record { number = seat.number; first = seat.first; second = seat.second; third = seat.third; fourth = seat.fourth } in
    let new : Hands = record { number = seat.number; first = seat.first; second = seat.second; third = c.locked_call-then-shard-eq2.new.part; fourth = seat.fourth } in
    subst (λ (h : Hands). CalledAt {A = g.row.Q-Answer.Denot} (IsOfShardAt pool.own.name g.L.Lanes.begins) (g.Q.Call.there call) h new (shard_of c.args.topic.now pool.shards) (g.Q.Call.step call) (g.Q.Call.gives call) c.locked_call-then-shard-eq2.result.answer) c.seat.view_is
    (called_third g.L.Lanes.begins g.L.Third.Lane.begins pool.own.name g.L.Third.Lane.node c.args.topic.now pool.shards c.shard_of-shard.result (g.Q.Call.there call) old c.locked_call-then-shard-eq2.new.part (g.Q.Call.step call) (g.Q.Call.gives call) c.locked_call-then-shard-eq2.result.answer
    g.met.L.Lanes.third pool.one_node.2 c.shard_of-shard.ensures c.if-shard-eq2.true c.seat.invariant c.locked_call-then-shard-eq2.ensures)

pub returns : goal.returns
returns g c =
    let pool = c.args.self.now in
    let seat = c.seat.inside in
    let call = c.args.call.now in
    let old : Hands = record { number = seat.number; first = seat.first; second = seat.second; third = seat.third; fourth = seat.fourth } in
    let new : Hands = record { number = seat.number; first = seat.first; second = seat.second; third = seat.third; fourth = c.locked_call-2.new.part } in
    subst (λ (h : Hands). CalledAt {A = g.row.Q-Answer.Denot} (IsOfShardAt pool.own.name g.L.Lanes.begins) (g.Q.Call.there call) h new (shard_of c.args.topic.now pool.shards) (g.Q.Call.step call) (g.Q.Call.gives call) c.locked_call-2.result.answer) c.seat.view_is
    (called_fourth g.L.Lanes.begins g.L.Fourth.Lane.begins pool.own.name g.L.Fourth.Lane.node c.args.topic.now pool.shards c.shard_of-shard.result (g.Q.Call.there call) old c.locked_call-2.new.part (g.Q.Call.step call) (g.Q.Call.gives call) c.locked_call-2.result.answer
    g.met.L.Lanes.fourth pool.one_node.3 c.shard_of-shard.ensures pool.some.0 pool.some.1 c.if-shard-eq0.false c.if-shard-eq1.false c.if-shard-eq2.false c.seat.invariant c.locked_call-2.ensures)
