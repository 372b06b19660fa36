use Rattle.std.proofs.Common.{◌≡◌, drop, map}
use Rattle.link_rules.specs.Keying.{answered, shown_key}
use Rattle.link_rules.proofs.keying.answering.Given as goal

-- the key is that which is found among those that are left
abbrev pub invariant-loop-key : goal.invariant-loop-key
invariant-loop-key l =
    shown_key (map (λ k. k.items) l.keys) (answered l.link) l.code
    ≡ shown_key (map (λ k. k.items) (drop l.key-index l.keys)) (answered l.link) l.code
