use Rattle.std.proofs.Common.{◌≡◌, drop}
use Rattle.serve_handshakes.specs.Shown.{query_in}
use Rattle.serve_handshakes.proofs.shown.query_of.Given as goal

-- the query is that of the rest
abbrev pub invariant-loop-i : goal.invariant-loop-i
invariant-loop-i l = query_in l.target ≡ query_in (drop l.i l.target)
