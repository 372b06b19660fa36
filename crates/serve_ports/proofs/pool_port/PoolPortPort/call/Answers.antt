use Rattle.std.proofs.Common.{Ok, Err, refl, sym, ap, ◌∙◌, subst}
use Rattle.channel_rules.proofs.Answered.{can_tell, told_so, refused_so}
use Rattle.channel_rules.specs.Asks.{Ask, Answer}
use Rattle.channel_rules.specs.Shards.{topic_asked}
use Rattle.channel_rules.specs.declared.question.Told.TheVariants as told
use Rattle.channel_rules.specs.declared.refusal.Refusal.TheVariants.{Table}
use Rattle.shard_pool.specs.Seats.{IsOfShardAt, shard_of}
use Rattle.tracker_shard.specs.Asks.{TellsWaiting}
use Rattle.shard_pool.specs.Unseated.{IsBehindOf}
use Rattle.serve_ports.specs.Asking.{PoolStep}
use Rattle.serve_ports.proofs.Asking.{asked_so}
use Rattle.serve_ports.proofs.pool_port.PoolPortPort.call.Goals as goal

pub told_to-requires : goal.told_to-requires
told_to-requires g c = can_tell _ _ (sym c.in-Waits.ensures.1) (told.Waits c.in-Ok.waits) _ refl

pub returns-in-Step : goal.returns-in-Step
returns-in-Step g c =
    let old = c.args.self.now in
    let G = g.C.Call in
    let S = g.C.Step.Call in
    let step = c.in-Step.step in
    let q = G.ask c.args.call.now in
    (c.make.ensures.kept, asked_so (IsOfShardAt old.pool.now.own.name g.L.Lanes.begins) old.pool.now.shards c.args.pid q (G.view c.args.call.now) (S.step step) (S.there step) (S.gives step) c.in-Step.ensures c.topic-topic.result.now (c.topic-topic.ensures ∙ ap topic_asked c.question.ensures) old.seat.now c.make.new.self.seat.now c.make.result c.make.ensures.asked)

pub returns-in-Ok : goal.returns-in-Ok
returns-in-Ok g c =
    let old = c.args.self.now in
    let here = IsOfShardAt old.pool.now.own.name g.L.Lanes.begins in
    let waits = c.in-Waits.ensures in
    let S : (q : Ask) → Answer q → Type 0 = λ q a. PoolStep here old.pool.now.shards c.args.pid old.seat.now q a old.seat.now in
    let named = c.shard_of.ensures.shard ∙ ap (λ t. shard_of t old.pool.now.shards) (c.topic-topic.ensures ∙ ap topic_asked (c.question.ensures ∙ waits.1)) in
    let behind = subst (λ s. IsBehindOf (here s) (λ h. TellsWaiting h c.in-Waits.sub (Ok c.in-Ok.waits))) named c.in-Ok.ensures.lane in
    ((refl, refl), told_so _ _ (sym waits.1) S (told.Waits c.in-Ok.waits) _ _ refl c.told_to.ensures (refl, behind))

pub returns-in-Err : goal.returns-in-Err
returns-in-Err g c =
    let old = c.args.self.now in
    let here = IsOfShardAt old.pool.now.own.name g.L.Lanes.begins in
    let waits = c.in-Waits.ensures in
    let S : (q : Ask) → Answer q → Type 0 = λ q a. PoolStep here old.pool.now.shards c.args.pid old.seat.now q a old.seat.now in
    let named = c.shard_of.ensures.shard ∙ ap (λ t. shard_of t old.pool.now.shards) (c.topic-topic.ensures ∙ ap topic_asked (c.question.ensures ∙ waits.1)) in
    let behind = subst (λ s. IsBehindOf (here s) (λ h. TellsWaiting h c.in-Waits.sub (Err c.in-Err.fault))) named c.in-Err.ensures.lane in
    ((refl, refl), refused_so _ _ (sym waits.1) S (Table c.in-Err.fault) (refl, behind))
