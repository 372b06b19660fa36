use Rattle.std.proofs.Common.{ℕ, List, subst, sym, arith}
use Rattle.crossbeam_queue.specs.Passes.{view}
use Rattle.serve_connections.specs.Places.{served}
use Rattle.serve_connections.specs.Working.{Pairwise, RisesBetween, SendsIf}
use Rattle.serve_connections.specs.declared.client.Client.{Client}
use Rattle.serve_connections.proofs.Numbers.{sends_number, pairwise_rising, kept_rising}
use Rattle.serve_connections.proofs.worker.Worker.flush.Goals as goal

pub invariant_of-self : goal.invariant_of-self
invariant_of-self g c =
    let keys : List ℕ = c.args.self.now.order.items in
    let top : ℕ = (view c.args.self.now.taker.pass).taken in
    let R : Client g.row.S.Denot → Client g.row.S.Denot → Type 0 = λ old new. SendsIf g.S.Write.contents old.unsent old new in
    let sends : Pairwise R (served c.args.self.now.clients keys) (served c.send_all.new.clients keys) = rw c.as_slice.ensures.value at c.send_all.ensures.sends in
    record {
      kept = c.drop_ended.ensures.kept;
      at_rest = rw c.as_slice-2.ensures.value at c.settle.ensures;
      few = omega (arith, c.drop_ended.ensures.few, c.args.self.now.few);
      rising = subst (RisesBetween 0 top) (sym c.drop_ended.ensures.left) (kept_rising 0 top (served c.send_all.new.clients keys)
          (pairwise_rising R (λ x y h. sends_number g.S.Write.contents x.unsent x y h) 0 top (served c.args.self.now.clients keys) (served c.send_all.new.clients keys) sends c.args.self.now.rising));
    }

pub returns : goal.returns
returns g c =
    record {
      sent = served c.send_all.new.clients c.args.self.now.order.items;
      sends = rw c.as_slice.ensures.value at c.send_all.ensures.sends;
      left = c.drop_ended.ensures.left;
    }
