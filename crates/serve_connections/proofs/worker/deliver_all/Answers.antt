use Rattle.std.proofs.Common.{◌≡◌, true, false, get_or, sym, ap, ◌∙◌}
use Rattle.std.specs.Option.{option_copied_mut}
use Rattle.serve_connections.specs.Turning.{around}
use Rattle.serve_connections.specs.Resting.{is_noted}
use Rattle.serve_connections.specs.Working.{Delivers}
use Rattle.serve_connections.proofs.Notes.{delivers_over, written_at_rest}
use Rattle.serve_connections.proofs.Numbers.{delivers_token}
use Rattle.serve_connections.proofs.Places.{chained_at, chained_all, some_at}
use Rattle.serve_connections.proofs.worker.deliver_all.Goals.{then-not-is_noted+in-Some, then-not-is_noted+in_default, else-not-is_noted}
use Rattle.serve_connections.proofs.worker.deliver_all.Goals as goal

pub loop-key-preserved : goal.loop-key-preserved
loop-key-preserved g c =
    let w = around g.S.Read.remaining g.S.Write.contents g.P.Port.step g.H.PresenceHooks c.args.hooks.now in
    elim c.if-not-is_noted.branch [
      | then-not-is_noted+in-Some b ↦
          let no : is_noted c.args.keys.resting.now.notes.items (get_or c.args.keys.order.now c.loop-key.key-index 0) ≡ false = sym c.is_noted.ensures ∙ b.if-not-is_noted.true in
          let there = sym b.get_mut.follows ∙ ap option_copied_mut b.in-Some.is in
          rw (b.clients-is, b.port-is) (
            chained_at (Delivers w) c.args.clients.now c.loop-key.clients c.args.keys.order.now
                c.loop-key.key-index 0 b.in-Some.client.now b.deliver.new.self c.args.port.now c.loop-key.port b.deliver.new.port c.loop-key-test.true there
                (delivers_token w b.in-Some.client.now.ready b.in-Some.client.now b.deliver.new.self c.loop-key.port b.deliver.new.port b.deliver.ensures)
                b.deliver.ensures c.loop-key.invariant.0,
            written_at_rest c.loop-key.clients c.args.keys.resting.now.notes.items (get_or c.args.keys.order.now c.loop-key.key-index 0)
                b.in-Some.client.now b.deliver.new.self c.args.keys.order.now there no c.loop-key.invariant.1,
          )
      | then-not-is_noted+in_default b ↦
          absurd (some_at c.loop-key.clients c.args.keys.order.now c.loop-key.key-index 0 c.loop-key.invariant.0.0 c.loop-key-test.true
          (sym b.get_mut.follows ∙ ap option_copied_mut b.in_default.is))
      | else-not-is_noted b ↦
          let yes : is_noted c.args.keys.resting.now.notes.items (get_or c.args.keys.order.now c.loop-key.key-index 0) ≡ true = sym c.is_noted.ensures ∙ b.if-not-is_noted.false in
          rw (b.clients-is, b.port-is) (
            delivers_over w c.args.clients.now c.loop-key.clients c.args.keys.resting.now.notes.items c.args.keys.order.now c.loop-key.key-index 0
                c.args.port.now c.loop-key.port c.loop-key-test.true yes c.loop-key.invariant.1 c.loop-key.invariant.0,
            c.loop-key.invariant.1,
          )
    ]

pub returns-clause-delivers : goal.returns-clause-delivers
returns-clause-delivers g c =
    let w = around g.S.Read.remaining g.S.Write.contents g.P.Port.step g.H.PresenceHooks c.args.hooks.now in
    chained_all (Delivers w) c.args.clients.now c.loop-key.clients c.args.keys.order.now c.loop-key.key-index
    c.args.port.now c.loop-key.port c.loop-key-test.false c.requires.kept c.loop-key.invariant.0
