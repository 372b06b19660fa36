use Rattle.std.specs.Io.KnownBytes.{Keeps}
use Rattle.std.proofs.Common.{◌≤◌, ◌-◌}
use Rattle.presence_stdio.proofs.lines.next_byte.Given as goal

abbrev pub invariant-loop-interrupted : goal.invariant-loop-interrupted
invariant-loop-interrupted g l = (l.interrupted ≤ 200) × Keeps (g.R.Read.remaining l.initial.reader) (g.R.Read.remaining l.reader)

abbrev pub decreases-loop-interrupted : goal.decreases-loop-interrupted
decreases-loop-interrupted g l = 200 - l.interrupted
