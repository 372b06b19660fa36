use Rattle.std.proofs.Common.{Ok, Err, refl, sym, ◌∙◌}
use Rattle.serve_connections.proofs.Turnings.{borne}
use Rattle.serve_connections.proofs.connection.Connection.bear_silence.Goals as goal

pub returns-in-Ok : goal.returns-in-Ok
returns-in-Ok g c =
    borne g.S.Write.contents c.args.now c.args.self.now c.ask.new.self (Ok tt) (sym c.in-Ok.is ∙ c.patience.ensures) c.ask.ensures

pub returns-in-Err : goal.returns-in-Err
returns-in-Err g c =
    borne g.S.Write.contents c.args.now c.args.self.now c.args.self.now (Err c.in-Err.cause) (sym c.in-Err.is ∙ c.patience.ensures) refl
