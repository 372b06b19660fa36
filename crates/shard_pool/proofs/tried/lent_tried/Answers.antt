use Rattle.std.proofs.Common.{refl}
use Rattle.shard_pool.proofs.Tries.{called_again}
use Rattle.shard_pool.proofs.tried.lent_tried.Goals as goal

pub returns-clause-called : goal.returns-clause-called
returns-clause-called g c =
    let second = c.lent_call-answer-2.ensures in
    let room = c.if-not-makes_room.ensures in
    let begun = c.journal-begun.ensures in
    called_again g.L.Lane.node g.L.Lane.begins (g.C.Call.there c.args.call.now) (g.C.Call.step c.args.call.now) (g.C.Call.gives c.args.call.now)
    c.args.locked.now.shard c.lent_call-answer.new.locked.shard c.makes_room.new.self.shard c.lent_call-answer-2.new.locked.shard
    c.args.part.now c.lent_call-answer.new.part c.lent_call-answer-2.new.part c.lent_call-answer.result c.lent_call-answer-2.result
    (room.lack refl) c.lent_call-answer.ensures.step c.lent_call-answer.ensures.notes (room.begun refl) (room.behind refl)
    begun.legal begun.node begun.lane second.step second.notes second.answer second.due
