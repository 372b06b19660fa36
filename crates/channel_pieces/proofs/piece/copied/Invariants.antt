use Rattle.std.proofs.Common.{◌≡◌, ◌++◌, drop}
use Rattle.channel_pieces.proofs.piece.copied.Given as goal

-- the copies so far, and the rows that are left
abbrev pub invariant-loop-dot : goal.invariant-loop-dot
invariant-loop-dot l = l.copies.items ++ drop l.dot-index l.rows ≡ l.rows
