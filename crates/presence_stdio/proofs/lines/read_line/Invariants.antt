use Rattle.std.proofs.Common.{◌≡◌, length, true}
use Rattle.std.specs.Io.KnownBytes.{Consumes}
use Rattle.phx_message.specs.Lines.{lacks_feed}
use Rattle.presence_stdio.proofs.lines.read_line.Given as goal

-- what was read is the line so far
abbrev pub invariant-loop-turn : goal.invariant-loop-turn
invariant-loop-turn g l =
    (lacks_feed l.line.items ≡ true) × (length l.line.items ≡ l._turn) × Consumes (g.R.Read.remaining l.initial.reader) (g.R.Read.remaining l.reader) l.line.items
