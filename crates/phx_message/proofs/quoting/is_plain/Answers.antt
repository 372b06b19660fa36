use Rattle.phx_message.proofs.Plain.{plain_on}
use Rattle.phx_message.proofs.quoting.is_plain.Goals as goal

pub loop-byte-preserved : goal.loop-byte-preserved
loop-byte-preserved c = λ h.
    c.loop-byte.invariant
    (plain_on c.args.text.now c.as_bytes-byte-items.result.now c.loop-byte.byte-index c.as_bytes-byte-items.ensures.value c.loop-byte-test.true
    c.if-byte-lt32.false c.if-byte-eq34.false c.if-byte-eq92.false h)
