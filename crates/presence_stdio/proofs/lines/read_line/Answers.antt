use Rattle.std.proofs.Common.{◌<◌, length, arith}
use Rattle.std.proofs.lemmas.Bool.Decides.{nat_tests}
use Rattle.presence_stdio.proofs.Splits.{line_at_end, line_at_feed, line_full, line_stopped, line_unkept}
use Rattle.presence_stdio.proofs.lines.read_line.Goals as goal

pub returns-in-Ok-None : goal.returns-in-Ok-None
returns-in-Ok-None g c =
    let some : 0 < length c.loop-turn.line.items = grind (arith, nat_tests, c.loop-turn.line.ok) in
    line_at_end c.args.limit _ _ _ c.loop-turn.line.items c.loop-turn.invariant.0 (omega arith) some c.loop-turn.invariant.2 (rw c.in-Ok-None.field-0-is at c.in-Ok-None.ensures.byte)

pub returns-in-Ok-Some-eq10 : goal.returns-in-Ok-Some-eq10
returns-in-Ok-Some-eq10 g c =
    let byte = rw c.in-Ok-Some-eq10.field-0-is at c.in-Ok-Some-eq10.ensures.byte in
    line_at_feed c.args.limit _ _ _ c.loop-turn.line.items c.loop-turn.invariant.0 (omega arith) c.loop-turn.invariant.2 (rw c.in-Ok-Some-eq10.field-0-0-test at byte)

pub returns-in-Err : goal.returns-in-Err
returns-in-Err g c = line_stopped c.args.limit _ _ _ c.loop-turn.line.items c.loop-turn.invariant.0 (omega arith) c.loop-turn.invariant.2 c.in-Err.ensures.byte

pub returns-then-is_err : goal.returns-then-is_err
returns-then-is_err g c =
    line_unkept c.args.limit _ _ _ c.loop-turn.line.items c.in-Ok-Some.byte c.loop-turn.invariant.0 (omega arith) c.loop-turn.invariant.2 (rw c.in-Ok-Some.field-0-is at c.in-Ok-Some.ensures.byte) c.in-Ok-Some.byte-test.1

pub returns : goal.returns
returns g c = line_full c.args.limit _ _ c.loop-turn.line.items c.loop-turn.invariant.0 (omega arith) c.loop-turn.invariant.2
