use Rattle.std.proofs.Common.{get_or, sym, ap, ◌∙◌}
use Rattle.std.specs.Option.{option_copied_mut}
use Rattle.serve_connections.specs.Working.{StopsOne}
use Rattle.serve_connections.proofs.Notes.{roused_at_rest}
use Rattle.serve_connections.proofs.Places.{pairwise_at, pairwise_all, some_at}
use Rattle.serve_connections.proofs.worker.stop_each.Goals.{in-Some, in_default}
use Rattle.serve_connections.proofs.worker.stop_each.Goals as goal

pub loop-key-preserved : goal.loop-key-preserved
loop-key-preserved g c = elim c.match-get_mut.branch [
  | in-Some b ↦
      rw (b.clients-is, b.resting-is, b.wake.ensures) (
        pairwise_at (StopsOne g.S.Write.contents) c.args.clients.now c.loop-key.clients c.args.order.now
            c.loop-key.key-index 0 b.in-Some.client.now b.stop.new.self c.loop-key-test.true
            (sym c.get_mut.follows ∙ ap option_copied_mut b.in-Some.is)
            (ap (λ x. x.token) b.stop.ensures.client) b.stop.ensures c.loop-key.invariant.0,
        roused_at_rest c.loop-key.clients c.loop-key.resting.notes.items (get_or c.args.order.now c.loop-key.key-index 0)
            b.in-Some.client.now b.stop.new.self c.args.order.now (sym c.get_mut.follows ∙ ap option_copied_mut b.in-Some.is) c.loop-key.invariant.1,
      )
  | in_default b ↦
      absurd (some_at c.loop-key.clients c.args.order.now c.loop-key.key-index 0 c.loop-key.invariant.0.0 c.loop-key-test.true
      (sym c.get_mut.follows ∙ ap option_copied_mut b.in_default.is))
]

pub returns-clause-stops : goal.returns-clause-stops
returns-clause-stops g c =
    pairwise_all (StopsOne g.S.Write.contents) c.args.clients.now c.loop-key.clients c.args.order.now c.loop-key.key-index
    c.loop-key-test.false c.requires.kept c.loop-key.invariant.0
