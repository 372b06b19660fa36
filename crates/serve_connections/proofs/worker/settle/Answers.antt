use Rattle.std.proofs.Common.{sym, ◌∙◌}
use Rattle.std.specs.Prelude.{get_or}
use Rattle.slab.specs.Slab.{get}
use Rattle.serve_connections.specs.Resting.{is_noted, rests_at}
use Rattle.serve_connections.proofs.Notes.{found_by, settled_at_rest}
use Rattle.serve_connections.proofs.worker.settle.Goals.{then-comes_to_rest, else-comes_to_rest}
use Rattle.serve_connections.proofs.worker.settle.Goals as goal

pub loop-key-preserved : goal.loop-key-preserved
loop-key-preserved g c =
    let key = get_or c.args.order.now c.loop-key.key-index 0 in
    elim c.if-comes_to_rest.branch [
      | then-comes_to_rest w ↦
          rw (w.resting-is, w.settle.ensures) (settled_at_rest c.args.clients.now c.loop-key.resting.notes.items key c.args.order.now
          (found_by (is_noted c.loop-key.resting.notes.items key) (rests_at (get c.args.clients.now key)) (sym c.comes_to_rest.ensures ∙ w.if-comes_to_rest.true)) c.loop-key.invariant)
      | else-comes_to_rest w ↦ rw w.resting-is c.loop-key.invariant
    ]
