use Rattle.std.proofs.Common.{◌≡◌, List, Some, sym, ap, ◌∙◌}
use Rattle.std.specs.Option.{option_copied_mut}
use Rattle.std.specs.Prelude.{◌==◌}
use Rattle.crossbeam_queue.specs.Passes.{view}
use Rattle.slab.specs.Slab.{get, with_value}
use Rattle.serve_connections.specs.Places.{served}
use Rattle.serve_connections.specs.Working.{Pairwise, StopsIf}
use Rattle.serve_connections.specs.declared.client.Client.{Client}
use Rattle.serve_connections.proofs.Notes.{roused_at_rest}
use Rattle.serve_connections.proofs.Numbers.{pairwise_rising}
use Rattle.serve_connections.proofs.Stoppings.{none_stopped, stopped_kept, stopped_served, stops_if_number}
use Rattle.serve_connections.proofs.worker.Worker.stop.Goals as goal

pub invariant_of-self : goal.invariant_of-self
invariant_of-self g c =
    let there : get c.args.self.now.clients c.args.token ≡ Some c.in-Some.client.now = sym c.get_mut.follows ∙ ap option_copied_mut c.in-Some.is in
    let R : Client g.row.S.Denot → Client g.row.S.Denot → Type 0 = λ old new. StopsIf g.S.Write.contents (old.token == c.args.token) old new in
    let old : List (Client g.row.S.Denot) = served c.args.self.now.clients c.args.self.now.order.items in
    let new : List (Client g.row.S.Denot) = served (with_value c.args.self.now.clients c.args.token c.stop.new.self) c.args.self.now.order.items in
    let stops : Pairwise R old new = stopped_served g.S.Write.contents c.args.self.now.clients c.args.token c.in-Some.client.now c.stop.new.self c.args.self.now.order.items there c.stop.ensures c.args.self.now.kept in
    record {
      kept = stopped_kept c.args.self.now.clients c.args.token c.in-Some.client.now c.stop.new.self c.args.self.now.order.items there (ap (λ x. x.token) c.stop.ensures.client) c.args.self.now.kept;
      at_rest = rw c.wake.ensures (roused_at_rest c.args.self.now.clients c.args.self.now.resting.notes.items c.args.token c.in-Some.client.now c.stop.new.self
          c.args.self.now.order.items there c.args.self.now.at_rest);
      few = c.args.self.now.few;
      rising = pairwise_rising R (λ x y h. stops_if_number g.S.Write.contents (x.token == c.args.token) x y h) 0 (view c.args.self.now.taker.pass).taken old new stops c.args.self.now.rising;
    }

pub returns-in-Some : goal.returns-in-Some
returns-in-Some g c =
    let there : get c.args.self.now.clients c.args.token ≡ Some c.in-Some.client.now = sym c.get_mut.follows ∙ ap option_copied_mut c.in-Some.is in
    stopped_served g.S.Write.contents c.args.self.now.clients c.args.token c.in-Some.client.now c.stop.new.self c.args.self.now.order.items there c.stop.ensures c.args.self.now.kept

pub returns-in_default : goal.returns-in_default
returns-in_default g c =
    none_stopped g.S.Write.contents c.args.self.now.clients c.args.token c.args.self.now.order.items
    (sym c.get_mut.follows ∙ ap option_copied_mut c.in_default.is) c.args.self.now.kept
