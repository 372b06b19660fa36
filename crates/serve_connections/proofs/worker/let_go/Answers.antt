use Rattle.std.proofs.Common.{◌≡◌, Bool, true, refl, sym, ap, ◌∙◌}
use Rattle.std.specs.Prelude.{get_or}
use Rattle.slab.specs.Slab.{get}
use Rattle.serve_connections.specs.Resting.{holds_at, is_noted}
use Rattle.serve_connections.specs.Working.{ended_at}
use Rattle.serve_connections.proofs.LeavingLemmas.{left_none, left_all, left_ended, left_going, left_here}
use Rattle.serve_connections.proofs.Notes.{found_by, found_not, never, rest_at}
use Rattle.serve_connections.proofs.worker.let_go.Goals.{then-has_ended_at, else-has_ended_at}
use Rattle.serve_connections.proofs.worker.let_go.Goals as goal

pub loop-key-init : goal.loop-key-init
loop-key-init g c = (left_none c.args.clients.now c.args.order.now, λ e. refl)

pub loop-key-preserved : goal.loop-key-preserved
loop-key-preserved g c =
    let key = get_or c.args.order.now c.loop-key.key-index 0 in
    let noted : Bool = is_noted c.args.resting.now.notes.items key in
    elim c.if-has_ended_at.branch [
      | then-has_ended_at w ↦
          rw (w.clients-is, w.some-is) (
            left_ended c.args.clients.now c.loop-key.clients w.try_remove.new.self c.args.order.now c.loop-key.key-index 0 c.loop-key-test.true c.requires.kept
                (found_by noted (ended_at (get c.loop-key.clients key)) (sym c.has_ended_at.ensures ∙ w.if-has_ended_at.true)) w.try_remove.ensures.updates c.loop-key.invariant.0,
            λ e. never e,
          )
      | else-has_ended_at w ↦
          let here : get c.loop-key.clients key ≡ get c.args.clients.now key =
          left_here c.args.clients.now c.loop-key.clients c.args.order.now c.loop-key.key-index 0 c.loop-key-test.true c.loop-key.invariant.0 in
          let holds : holds_at noted (get c.loop-key.clients key) ≡ true =
          ap (holds_at noted) here ∙ rest_at c.args.clients.now c.args.resting.now.notes.items c.args.order.now c.loop-key.key-index 0 c.loop-key-test.true c.requires.at_rest in
          rw (w.clients-is, w.some-is) (
            left_going c.args.clients.now c.loop-key.clients c.args.order.now c.loop-key.key-index 0 c.loop-key-test.true c.requires.kept
                (found_not noted (get c.loop-key.clients key) holds (sym c.has_ended_at.ensures ∙ w.if-has_ended_at.false)) c.loop-key.invariant.0,
            c.loop-key.invariant.1,
          )
    ]

pub returns-clause-left : goal.returns-clause-left
returns-clause-left g c =
    left_all c.args.clients.now c.loop-key.clients c.args.order.now c.loop-key.key-index c.loop-key-test.false c.loop-key.invariant.0
