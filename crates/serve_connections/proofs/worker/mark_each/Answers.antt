use Rattle.std.proofs.Common.{◌≡◌, get_or, sym, ap, ◌∙◌}
use Rattle.std.specs.Option.{option_copied_mut}
use Rattle.serve_connections.specs.Working.{readied}
use Rattle.serve_connections.proofs.Notes.{roused_at_rest}
use Rattle.serve_connections.proofs.Places.{pairwise_at, pairwise_all, some_at}
use Rattle.serve_connections.proofs.worker.mark_each.Goals.{in-Some, in_default}
use Rattle.serve_connections.proofs.worker.mark_each.Goals as goal

pub loop-key-preserved : goal.loop-key-preserved
loop-key-preserved g c = elim c.match-get_mut.branch [
  | in-Some b ↦
      rw (b.clients-is, b.resting-is, b.wake.ensures) (
        pairwise_at (λ old new. new ≡ readied old) c.args.clients.now c.loop-key.clients c.args.order.now
            c.loop-key.key-index 0 b.in-Some.client.now b.get_ready.new.self c.loop-key-test.true
            (sym c.get_mut.follows ∙ ap option_copied_mut b.in-Some.is)
            (ap (λ x. x.token) b.get_ready.ensures) b.get_ready.ensures c.loop-key.invariant.0,
        roused_at_rest c.loop-key.clients c.loop-key.resting.notes.items (get_or c.args.order.now c.loop-key.key-index 0)
            b.in-Some.client.now b.get_ready.new.self c.args.order.now (sym c.get_mut.follows ∙ ap option_copied_mut b.in-Some.is) c.loop-key.invariant.1,
      )
  | in_default b ↦
      absurd (some_at c.loop-key.clients c.args.order.now c.loop-key.key-index 0 c.loop-key.invariant.0.0 c.loop-key-test.true
      (sym c.get_mut.follows ∙ ap option_copied_mut b.in_default.is))
]

pub returns-clause-marks : goal.returns-clause-marks
returns-clause-marks g c =
    pairwise_all (λ old new. new ≡ readied old) c.args.clients.now c.loop-key.clients c.args.order.now c.loop-key.key-index
    c.loop-key-test.false c.requires.kept c.loop-key.invariant.0
