use Rattle.std.proofs.Common.{◌≡◌, ◌≤◌, drop}
use Rattle.serve_handshakes.specs.Fields.{is_long_from}
use Rattle.serve_handshakes.proofs.fields.is_long.Given as goal

-- the number so far, and the digits that are left
abbrev pub invariant-loop-digit : goal.invariant-loop-digit
invariant-loop-digit l =
    (is_long_from 0 l.digits ≡ is_long_from l.bytes (drop l.digit-index l.digits)) × (l.bytes ≤ 65537)
