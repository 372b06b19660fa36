use Rattle.std.proofs.Common.{◌≡◌, drop, map, string_bytes}
use Rattle.serve_handshakes.specs.Answers.{is_among}
use Rattle.serve_handshakes.proofs.answer.is_named.Given as goal

-- the origin is named if one of those that are left is it
abbrev pub invariant-loop-named : goal.invariant-loop-named
invariant-loop-named l =
    is_among (map string_bytes l.origins) l.origin ≡ is_among (map string_bytes (drop l.named-index l.origins)) l.origin
