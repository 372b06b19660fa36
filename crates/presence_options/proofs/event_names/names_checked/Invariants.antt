use Rattle.std.proofs.Common.{map, drop}
use Rattle.presence_options.specs.Limits.{AreEventNames}
use Rattle.presence_options.proofs.event_names.names_checked.Given as goal

-- all are names where those that are left are
abbrev pub invariant-loop-text : goal.invariant-loop-text
invariant-loop-text l =
    (AreEventNames (map (λ t. t.now) l.texts) → AreEventNames (map (λ t. t.now) (drop l.text-index l.texts)))
    × (AreEventNames (map (λ t. t.now) (drop l.text-index l.texts)) → AreEventNames (map (λ t. t.now) l.texts))
