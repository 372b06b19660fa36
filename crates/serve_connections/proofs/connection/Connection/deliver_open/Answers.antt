use Rattle.std.proofs.Common.{subst, sym}
use Rattle.serve_connections.proofs.Turnings.{delivered, undelivered}
use Rattle.serve_connections.specs.Turning.{around, TakesDelivery}
use Rattle.serve_connections.specs.declared.connection.Progress.{Progress}
use Rattle.serve_connections.proofs.connection.Connection.deliver_open.Goals as goal

pub returns-in-Ok : goal.returns-in-Ok
returns-in-Ok g c =
    let w = around g.S.Read.remaining g.S.Write.contents g.P.Port.step g.H.PresenceHooks c.args.hooks.now in
    subst (λ (p : Progress). TakesDelivery w c.args.self.now c.deal.new.self c.args.port.now c.deal.new.port p) (sym c.progress_of.ensures)
    (delivered w c.args.self.now c.deal.new.self c.args.port.now c.deal.new.port c.in-Ok.more c.in-Ok.ensures)

pub returns-in-Err : goal.returns-in-Err
returns-in-Err g c =
    undelivered (around g.S.Read.remaining g.S.Write.contents g.P.Port.step g.H.PresenceHooks c.args.hooks.now) c.args.self.now c.deal.new.self c.close.new.self c.end_session.new.self
    c.args.port.now c.deal.new.port c.end_session.new.port c.in-Err.cause c.end_session.result c.in-Err.ensures c.close.ensures.closed c.close.ensures.kept c.end_session.ensures
