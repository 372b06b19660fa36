use Rattle.std.proofs.Common.{◌≡◌, ◌≤◌, ◌++◌, length, map, drop}
use Rattle.presence_options.specs.Given.{AreFewPatterns}
use Rattle.presence_options.specs.Limits.{numbered, ArePatterns}
use Rattle.presence_options.proofs.Patterns.{StillFew}
use Rattle.presence_options.proofs.values.numbered_routes.Given as goal

-- the routes so far, followed by those of the patterns that are left
abbrev pub invariant-loop-pattern : goal.invariant-loop-pattern
invariant-loop-pattern l =
    (l.routes ++ numbered l.kind (map (λ p. p.now) (drop l.pattern-index l.patterns)) ≡ numbered 0 (map (λ p. p.now) l.patterns))
    × (l.kind ≡ length l.routes) × (l.kind ≤ 64) × ArePatterns l.routes
    × (AreFewPatterns (map (λ p. p.now) l.patterns) → StillFew l.kind (map (λ p. p.now) (drop l.pattern-index l.patterns)))
