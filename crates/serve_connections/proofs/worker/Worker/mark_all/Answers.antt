use Rattle.std.proofs.Common.{◌≡◌, List}
use Rattle.crossbeam_queue.specs.Passes.{view}
use Rattle.serve_connections.specs.Places.{served}
use Rattle.serve_connections.specs.Working.{Pairwise, readied}
use Rattle.serve_connections.specs.declared.client.Client.{Client}
use Rattle.serve_connections.proofs.Lists.{pairwise_map}
use Rattle.serve_connections.proofs.Numbers.{readies_number, pairwise_rising}
use Rattle.serve_connections.proofs.worker.Worker.mark_all.Goals as goal

pub invariant_of-self : goal.invariant_of-self
invariant_of-self g c =
    let R : Client g.row.S.Denot → Client g.row.S.Denot → Type 0 = λ x y. y ≡ readied x in
    let old : List (Client g.row.S.Denot) = served c.args.self.now.clients c.args.self.now.order.items in
    let new : List (Client g.row.S.Denot) = served c.mark_each.new.clients c.args.self.now.order.items in
    let marks : Pairwise R old new = rw c.as_slice.ensures.value at c.mark_each.ensures.marks in
    record {
      kept = rw c.as_slice.ensures.value at c.mark_each.ensures.kept;
      at_rest = rw c.as_slice.ensures.value at c.mark_each.ensures.at_rest;
      few = c.args.self.now.few;
      rising = pairwise_rising R (λ x y h. readies_number x y h) 0 (view c.args.self.now.taker.pass).taken old new marks c.args.self.now.rising;
    }

pub returns : goal.returns
returns g c =
    let R : Client g.row.S.Denot → Client g.row.S.Denot → Type 0 = λ x y. y ≡ readied x in
    let old : List (Client g.row.S.Denot) = served c.args.self.now.clients c.args.self.now.order.items in
    let new : List (Client g.row.S.Denot) = served c.mark_each.new.clients c.args.self.now.order.items in
    let marks : Pairwise R old new = rw c.as_slice.ensures.value at c.mark_each.ensures.marks in
    pairwise_map readied old new marks
