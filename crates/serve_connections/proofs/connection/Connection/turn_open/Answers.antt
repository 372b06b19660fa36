use Rattle.std.proofs.Common.{subst, sym}
use Rattle.serve_connections.proofs.Turnings.{goes_on, ends}
use Rattle.serve_connections.specs.Turning.{around, TakesTurn}
use Rattle.serve_connections.specs.declared.connection.Progress.{Progress}
use Rattle.serve_connections.proofs.connection.Connection.turn_open.Goals as goal

pub returns-in-Ok : goal.returns-in-Ok
returns-in-Ok g c =
    let w = around g.S.Read.remaining g.S.Write.contents g.P.Port.step g.H.PresenceHooks c.args.hooks.now in
    subst (λ (p : Progress). TakesTurn w c.args.routes.now c.args.now c.args.self.now c.serve_if.new.self c.args.port.now c.serve_if.new.port p) (sym c.progress_of.ensures)
    (goes_on w c.args.routes.now c.args.now c.args.self.now c.serve_if.new.self c.args.port.now c.serve_if.new.port c.in-Ok.more c.in-Ok.ensures)

pub returns-in-Err : goal.returns-in-Err
returns-in-Err g c =
    ends (around g.S.Read.remaining g.S.Write.contents g.P.Port.step g.H.PresenceHooks c.args.hooks.now) c.args.routes.now c.args.now c.args.self.now c.serve_if.new.self c.close.new.self c.end_session.new.self
    c.args.port.now c.serve_if.new.port c.end_session.new.port c.in-Err.cause c.end_session.result c.in-Err.ensures c.close.ensures.closed c.close.ensures.kept c.end_session.ensures
