use Rattle.std.proofs.Common.{List}
use Rattle.crossbeam_queue.specs.Passes.{view}
use Rattle.serve_connections.specs.Places.{served}
use Rattle.serve_connections.specs.Working.{Pairwise, StopsOne}
use Rattle.serve_connections.specs.declared.client.Client.{Client}
use Rattle.serve_connections.proofs.Numbers.{stops_number, pairwise_rising}
use Rattle.serve_connections.proofs.worker.Worker.stop_all.Goals as goal

pub invariant_of-self : goal.invariant_of-self
invariant_of-self g c =
    let R : Client g.row.S.Denot → Client g.row.S.Denot → Type 0 = StopsOne g.S.Write.contents in
    let old : List (Client g.row.S.Denot) = served c.args.self.now.clients c.args.self.now.order.items in
    let new : List (Client g.row.S.Denot) = served c.stop_each.new.clients c.args.self.now.order.items in
    let stops : Pairwise R old new = rw c.as_slice.ensures.value at c.stop_each.ensures.stops in
    record {
      kept = rw c.as_slice.ensures.value at c.stop_each.ensures.kept;
      at_rest = rw c.as_slice.ensures.value at c.stop_each.ensures.at_rest;
      few = c.args.self.now.few;
      rising = pairwise_rising R (λ x y h. stops_number g.S.Write.contents x y h) 0 (view c.args.self.now.taker.pass).taken old new stops c.args.self.now.rising;
    }

pub returns : goal.returns
returns g c = rw c.as_slice.ensures.value at c.stop_each.ensures.stops
