use Rattle.serve_handshakes.proofs.Hops.{next_field}
use Rattle.serve_handshakes.proofs.client.behind_fields.Goals as goal

pub loop-span-preserved : goal.loop-span-preserved
loop-span-preserved c = λ after h. c.loop-span.invariant after (next_field c.args.proxies.now c.args.head.now c.args.spans.now c.loop-span.span-index _ _ _ after c.loop-span-test.true c.behind_field-client.ensures h)
