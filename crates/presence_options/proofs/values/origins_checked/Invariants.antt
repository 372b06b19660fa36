use Rattle.std.proofs.Common.{map, drop}
use Rattle.presence_options.specs.Origins.{AreOrigins}
use Rattle.presence_options.proofs.values.origins_checked.Given as goal

-- all are origins where those that are left are
abbrev pub invariant-loop-text : goal.invariant-loop-text
invariant-loop-text l =
    (AreOrigins (map (λ t. t.now) l.texts) → AreOrigins (map (λ t. t.now) (drop l.text-index l.texts)))
    × (AreOrigins (map (λ t. t.now) (drop l.text-index l.texts)) → AreOrigins (map (λ t. t.now) l.texts))
