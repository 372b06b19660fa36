use Rattle.std.proofs.Common.{ℕ, Ok, subst}
use Rattle.channel_session.specs.Ran.{texts_in}
use Rattle.serve_connections.proofs.Turnings.{answers_fault, answers_out}
use Rattle.serve_connections.specs.Turning.{around, Tells}
use Rattle.serve_connections.proofs.connection.Connection.answer.Goals as goal

pub returns-in-Ok : goal.returns-in-Ok
returns-in-Ok g c =
    answers_out (around g.S.Read.remaining g.S.Write.contents g.P.Port.step g.H.PresenceHooks c.args.channels.hooks.now) c.args.signing c.args.channels.routes.now c.args.text.now c.args.self.now c.run_meant.new.self c.send.new.self
    c.args.port.now c.run_meant.new.port c.run_meant.result c.in-Ok.texts c.send.result c.run_meant.ensures.ran c.run_meant.ensures.kept c.in-Ok.is
    (subst (λ (n : ℕ). Tells g.S.Write.contents c.run_meant.new.self.settings n c.run_meant.new.self.socket c.send.new.self.socket (Ok (texts_in c.in-Ok.texts)) c.send.result) c.pid-pid.ensures c.send.ensures.sent)
    c.send.ensures.kept

pub returns-in-Err : goal.returns-in-Err
returns-in-Err g c =
    answers_fault (around g.S.Read.remaining g.S.Write.contents g.P.Port.step g.H.PresenceHooks c.args.channels.hooks.now) c.args.signing c.args.channels.routes.now c.args.text.now c.args.self.now c.run_meant.new.self
    c.args.port.now c.run_meant.new.port c.run_meant.result c.in-Err.fault c.run_meant.ensures.ran c.run_meant.ensures.kept c.in-Err.is
