use Rattle.presence_stdio.specs.Session.{voice_of}
use Rattle.presence_stdio.proofs.Answering.{if_told, if_kept, tells_bad, tells_full}
use Rattle.presence_stdio.proofs.local.LocalSession.answer_text.Goals as goal

pub returns-in-Ok-clause-answer : goal.returns-in-Ok-clause-answer
returns-in-Ok-clause-answer g c =
    if_told (voice_of g.H.PresenceHooks c.args.hooks.now) c.args.self.now _ c.args.text.now c.in-Ok.texts c.run_over.new.session c.run_over.new.shard c.tell.result c.in-Ok.ensures (rw c.deref.ensures.value at c.tell.ensures)

pub returns-in-Ok-clause-refused : goal.returns-in-Ok-clause-refused
returns-in-Ok-clause-refused g c =
    if_kept (voice_of g.H.PresenceHooks c.args.hooks.now) c.args.self.now _ _ c.args.text.now c.in-Ok.texts c.run_over.new.session c.run_over.new.shard c.tell.result c.in-Ok.ensures (rw c.deref.ensures.value at c.tell.ensures)

pub returns-in-Err-BadMessage-clause-answer : goal.returns-in-Err-BadMessage-clause-answer
returns-in-Err-BadMessage-clause-answer g c =
    tells_bad (voice_of g.H.PresenceHooks c.args.hooks.now) c.args.self.now _ c.args.text.now _ c.run_over.new.session c.run_over.new.shard _
    (rw c.in-Err-BadMessage.field-0-is at c.in-Err-BadMessage.ensures) c.refusing.ensures.text c.refusing.ensures.notes c.refusing.ensures.fault

pub returns-in-Err-ShardFull-clause-answer : goal.returns-in-Err-ShardFull-clause-answer
returns-in-Err-ShardFull-clause-answer g c =
    tells_full (voice_of g.H.PresenceHooks c.args.hooks.now) c.args.self.now _ c.args.text.now c.run_over.new.session c.run_over.new.shard _
    (rw c.in-Err-ShardFull.field-0-is at c.in-Err-ShardFull.ensures) c.refusing-in-Err-ShardFull.ensures.text c.refusing-in-Err-ShardFull.ensures.notes c.refusing-in-Err-ShardFull.ensures.fault
