use Rattle.presence_stdio.specs.Outlets.{held}
use Rattle.presence_stdio.specs.Session.{voice_of}
use Rattle.presence_stdio.proofs.Turns.{turn_refused}
use Rattle.presence_stdio.proofs.local.LocalSession.turn.Goals as goal

pub returns-in-Ok : goal.returns-in-Ok
returns-in-Ok g c = record { line = c.in-Ok-Some.line.items; read = rw c.in-Ok-Some.field-0-is at c.in-Ok-Some.ensures; answers = rw c.as_slice.ensures.value at c.in-Ok.ensures }

pub returns : goal.returns
returns g c =
    turn_refused (voice_of g.H.PresenceHooks c.args.hooks.now) c.args.n c.args.self.now c.answer_line.new.self (g.R.Read.remaining c.args.reader.now) (g.R.Read.remaining c.read_line.new.reader)
    (held g.W.Write.contents g.N.Write.contents c.args.out.now) (held g.W.Write.contents g.N.Write.contents c.answer_line.new.out) c.in-Ok-Some.line.items c.as_slice.result.now
    c.in-Err-answer_line.fault (rw c.in-Ok-Some.field-0-is at c.in-Ok-Some.ensures) c.as_slice.ensures.value c.in-Err-answer_line.ensures
