use Rattle.std.proofs.Common.{◌≡◌}
use Rattle.serve_handshakes.proofs.greeting.write_on.Given as goal

-- what is sent changes nothing of what follows it
abbrev pub invariant-loop : goal.invariant-loop
invariant-loop g l = l.reply.1 ≡ l.fn.reply.1
