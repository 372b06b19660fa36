use Rattle.std.proofs.Common.{◌≡◌, ◌-◌, ◌≤◌, take, drop}
use Rattle.websocket.specs.Headers.{has_token, has_token_from}
use Rattle.serve_handshakes.proofs.fields.has_token.Given as goal

abbrev pub invariant-loop-i : goal.invariant-loop-i
invariant-loop-i l = (l.start ≤ l.i) × (has_token l.value l.wanted ≡ has_token_from l.wanted (take (l.i - l.start) (drop l.start l.value)) (drop l.i l.value))
