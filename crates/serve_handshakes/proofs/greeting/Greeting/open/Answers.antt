use Rattle.std.proofs.Common.{subst}
use Rattle.tungstenite.specs.Config.{HasLimits}
use Rattle.serve_handshakes.proofs.greeting.Greeting.open.Goals as goal

pub returns : goal.returns
returns g c =
    ((c.requires, (_, c.new.ensures.fresh)), subst (λ k. HasLimits c.new.result.conn.config k) c.into_parts-stream.ensures c.new.ensures.limits)
