use Rattle.std.proofs.Common.{◌≡◌, true, false, get_or, sym, ap, ◌∙◌}
use Rattle.std.specs.Option.{option_copied_mut}
use Rattle.serve_connections.specs.Resting.{is_noted}
use Rattle.serve_connections.specs.Working.{SendsIf}
use Rattle.serve_connections.proofs.Notes.{sends_over, written_at_rest}
use Rattle.serve_connections.proofs.Numbers.{sends_token}
use Rattle.serve_connections.proofs.Places.{pairwise_at, pairwise_all, some_at}
use Rattle.serve_connections.proofs.worker.send_all.Goals.{then-not-is_noted+in-Some, then-not-is_noted+in_default, else-not-is_noted}
use Rattle.serve_connections.proofs.worker.send_all.Goals as goal

pub loop-key-preserved : goal.loop-key-preserved
loop-key-preserved g c = elim c.if-not-is_noted.branch [
  | then-not-is_noted+in-Some b ↦
      let no : is_noted c.args.resting.now.notes.items (get_or c.args.order.now c.loop-key.key-index 0) ≡ false = sym c.is_noted.ensures ∙ b.if-not-is_noted.true in
      let there = sym b.get_mut.follows ∙ ap option_copied_mut b.in-Some.is in
      rw b.clients-is (
        pairwise_at (λ old new. SendsIf g.S.Write.contents old.unsent old new) c.args.clients.now c.loop-key.clients c.args.order.now
            c.loop-key.key-index 0 b.in-Some.client.now b.flush.new.self c.loop-key-test.true there
            (sends_token g.S.Write.contents b.in-Some.client.now.unsent b.in-Some.client.now b.flush.new.self b.flush.ensures) b.flush.ensures c.loop-key.invariant.0,
        written_at_rest c.loop-key.clients c.args.resting.now.notes.items (get_or c.args.order.now c.loop-key.key-index 0)
            b.in-Some.client.now b.flush.new.self c.args.order.now there no c.loop-key.invariant.1,
      )
  | then-not-is_noted+in_default b ↦
      absurd (some_at c.loop-key.clients c.args.order.now c.loop-key.key-index 0 c.loop-key.invariant.0.0 c.loop-key-test.true
      (sym b.get_mut.follows ∙ ap option_copied_mut b.in_default.is))
  | else-not-is_noted b ↦
      let yes : is_noted c.args.resting.now.notes.items (get_or c.args.order.now c.loop-key.key-index 0) ≡ true = sym c.is_noted.ensures ∙ b.if-not-is_noted.false in
      rw b.clients-is (
        sends_over g.S.Write.contents c.args.clients.now c.loop-key.clients c.args.resting.now.notes.items c.args.order.now c.loop-key.key-index 0
            c.loop-key-test.true yes c.loop-key.invariant.1 c.loop-key.invariant.0,
        c.loop-key.invariant.1,
      )
]

pub returns-clause-sends : goal.returns-clause-sends
returns-clause-sends g c =
    pairwise_all (λ old new. SendsIf g.S.Write.contents old.unsent old new) c.args.clients.now c.loop-key.clients c.args.order.now c.loop-key.key-index
    c.loop-key-test.false c.requires.kept c.loop-key.invariant.0
