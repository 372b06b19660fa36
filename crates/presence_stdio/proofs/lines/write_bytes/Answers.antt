use Rattle.std.proofs.Common.{arith}
use Rattle.presence_stdio.proofs.Known.{appends-more, appends-keeps}
use Rattle.presence_stdio.proofs.lines.write_bytes.Goals as goal
use Rattle.presence_stdio.proofs.lines.write_bytes.Goals.{in-Ok+else-done-bytes, in-Err+else-ne}

pub loop-preserved : goal.loop-preserved
loop-preserved g c = elim c.match-write.branch [
  | in-Ok+else-done-bytes w ↦ rw w.done-is (omega arith, appends-more _ _ _ c.loop.done w.in-Ok.n c.args.bytes.now (omega arith) c.loop.invariant.1 w.in-Ok.ensures.bytes)
  | in-Err+else-ne w ↦ rw w.done-is (c.loop.invariant.0, appends-keeps _ _ _ _ c.loop.invariant.1 w.in-Err.ensures.bytes)
]
