use Rattle.std.proofs.Common.{◌≡◌, drop, map}
use Rattle.link_rules.specs.Keying.{is_shown, proved}
use Rattle.link_rules.proofs.keying.is_proof.Given as goal

-- one of the keys shows it if one of those that are left does
abbrev pub invariant-loop-key : goal.invariant-loop-key
invariant-loop-key l =
    is_shown (map (λ k. k.items) l.keys) (proved l.link l.who) l.code
    ≡ is_shown (map (λ k. k.items) (drop l.key-index l.keys)) (proved l.link l.who) l.code
