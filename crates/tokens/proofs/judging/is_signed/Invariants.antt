use Rattle.std.proofs.Common.{◌≡◌, drop, map}
use Rattle.tokens.specs.Judging.{is_signed}
use Rattle.tokens.proofs.judging.is_signed.Given as goal

-- one of the keys signs it if one of those that are left does
abbrev pub invariant-loop-key : goal.invariant-loop-key
invariant-loop-key l =
    is_signed (map (λ k. k.items) l.keys) l.head l.claims l.signature
    ≡ is_signed (map (λ k. k.items) (drop l.key-index l.keys)) l.head l.claims l.signature
