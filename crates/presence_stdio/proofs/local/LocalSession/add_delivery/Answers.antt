use Rattle.std.proofs.Common.{refl}
use Rattle.presence_stdio.specs.Session.{voice_of}
use Rattle.presence_stdio.proofs.Answering.{tells_delivery, tells_stop}
use Rattle.presence_stdio.proofs.local.LocalSession.add_delivery.Goals as goal

pub returns-in_ok-note_lines-in-Ok : goal.returns-in_ok-note_lines-in-Ok
returns-in_ok-note_lines-in-Ok g c =
    tells_delivery (voice_of g.H.PresenceHooks c.args.hooks.now) c.args.self.now c.args.text.items c.deliver_over.new.session c.deliver_over.new.shard c.in-Ok.delivery _ c.in-Ok.ensures
    (rw c.deref.ensures.value at c.in_ok-add_lines-in-Ok.ensures) (rw c.deref-in-Ok.ensures.value at c.in_ok-note_lines-in-Ok.ensures) refl

pub returns-in-Err-ShardFull : goal.returns-in-Err-ShardFull
returns-in-Err-ShardFull g c =
    tells_stop (voice_of g.H.PresenceHooks c.args.hooks.now) c.args.self.now _ c.args.text.items c.deliver_over.new.session c.deliver_over.new.shard _
    (rw c.in-Err-ShardFull.field-0-is at c.in-Err-ShardFull.ensures) refl c.new.ensures.items refl
