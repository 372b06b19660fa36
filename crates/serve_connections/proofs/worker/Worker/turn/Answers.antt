use Rattle.crossbeam_queue.specs.Passes.{view}
use Rattle.serve_connections.specs.Turning.{around}
use Rattle.serve_connections.specs.Places.{served}
use Rattle.serve_connections.proofs.Numbers.{serves_rising}
use Rattle.serve_connections.proofs.worker.Worker.turn.Goals as goal

pub invariant_of-self : goal.invariant_of-self
invariant_of-self g c =
    let w = around g.S.Read.remaining g.S.Write.contents g.P.Port.step g.H.PresenceHooks c.args.hooks.now in
    record {
      kept = rw c.as_slice.ensures.value at c.serve_all.ensures.kept;
      at_rest = rw c.as_slice.ensures.value at c.serve_all.ensures.at_rest;
      few = c.args.self.now.few;
      rising = serves_rising w c.args.routes.now c.args.now 0 (view c.args.self.now.taker.pass).taken
          (served c.args.self.now.clients c.args.self.now.order.items) (served c.serve_all.new.clients c.args.self.now.order.items)
          c.args.port.now c.serve_all.new.port (rw c.as_slice.ensures.value at c.serve_all.ensures.serves) c.args.self.now.rising;
    }

pub returns : goal.returns
returns g c = rw c.as_slice.ensures.value at c.serve_all.ensures.serves
