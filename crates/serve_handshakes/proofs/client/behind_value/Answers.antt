use Rattle.std.proofs.Common.{arith, sym, subst}
use Rattle.std.proofs.lemmas.Bool.Decides.{nat_tests}
use Rattle.serve_handshakes.specs.Clients.{BehindAll}
use Rattle.serve_handshakes.proofs.Hops.{at_separator, in_piece, last_hop}
use Rattle.serve_handshakes.proofs.client.behind_value.Goals as goal
use Rattle.serve_handshakes.proofs.client.behind_value.Goals.{then-value-i-eq32, else-value-i-eq32+else-value-i-eq44}

pub loop-i-init : goal.loop-i-init
loop-i-init c = (omega arith, λ after h. h)

pub loop-i-preserved : goal.loop-i-preserved
loop-i-preserved c =
    elim c.if-value-i-eq32.branch [
      | then-value-i-eq32 w ↦
          rw (w.start-is, w.client-is) (omega arith, λ after h. c.loop-i.invariant.1 after (at_separator c.args.proxies.now _ c.args.value.now c.loop-i.i c.loop-i.client _ after (omega arith) (grind (arith, nat_tests)) w.behind-client.ensures h))
      | else-value-i-eq32+else-value-i-eq44 w ↦
          rw (w.start-is, w.client-is) (omega (arith, c.loop-i.invariant.0), λ after h. c.loop-i.invariant.1 after (subst (λ ps. BehindAll c.args.proxies.now ps c.loop-i.client after) (sym (in_piece c.args.value.now c.loop-i.start c.loop-i.i c.loop-i.invariant.0 (omega arith) (grind (arith, nat_tests)))) h))
    ]

pub returns : goal.returns
returns c = c.loop-i.invariant.1 _ (last_hop c.args.proxies.now c.args.value.now c.loop-i.start c.loop-i.i c.loop-i.client _ c.loop-i.invariant.0 (omega arith) c.behind.ensures)
