use Rattle.std.proofs.Common.{◌≡◌, Some, sym, ap, ◌∙◌}
use Rattle.std.specs.Option.{option_copied_mut}
use Rattle.crossbeam_queue.specs.Passes.{view}
use Rattle.slab.specs.Slab.{get}
use Rattle.serve_connections.specs.Places.{served}
use Rattle.serve_connections.proofs.Notes.{roused_at_rest}
use Rattle.serve_connections.proofs.Numbers.{held_rising}
use Rattle.serve_connections.proofs.Holding.{held_kept, held_served, unheld_served}
use Rattle.serve_connections.proofs.worker.Worker.hold.Goals as goal

pub invariant_of-self : goal.invariant_of-self
invariant_of-self g c =
    let there : get c.args.self.now.clients c.args.token ≡ Some c.in-Some.client.now = sym c.get_mut.follows ∙ ap option_copied_mut c.in-Some.is in
    record {
      kept = held_kept c.args.self.now.clients c.args.token c.in-Some.client.now c.hold.new.self c.args.self.now.order.items there c.hold.ensures c.args.self.now.kept;
      at_rest = rw c.wake.ensures (roused_at_rest c.args.self.now.clients c.args.self.now.resting.notes.items c.args.token c.in-Some.client.now c.hold.new.self
          c.args.self.now.order.items there c.args.self.now.at_rest);
      few = c.args.self.now.few;
      rising = rw (held_served c.args.self.now.clients c.args.token c.in-Some.client.now c.hold.new.self c.args.self.now.order.items there c.hold.ensures c.args.self.now.kept)
          (held_rising c.args.token 0 (view c.args.self.now.taker.pass).taken (served c.args.self.now.clients c.args.self.now.order.items) c.args.self.now.rising);
    }

pub returns-in-Some : goal.returns-in-Some
returns-in-Some g c =
    let there : get c.args.self.now.clients c.args.token ≡ Some c.in-Some.client.now = sym c.get_mut.follows ∙ ap option_copied_mut c.in-Some.is in
    held_served c.args.self.now.clients c.args.token c.in-Some.client.now c.hold.new.self c.args.self.now.order.items there c.hold.ensures c.args.self.now.kept

pub returns-in_default : goal.returns-in_default
returns-in_default g c =
    unheld_served c.args.self.now.clients c.args.token c.args.self.now.order.items
    (sym c.get_mut.follows ∙ ap option_copied_mut c.in_default.is) c.args.self.now.kept
