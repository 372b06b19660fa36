use Rattle.std.proofs.Common.{◌≡◌, [], drop}
use Rattle.json.specs.Value.{items_view}
use Rattle.tokens.specs.Claimed.{patterns_in}
use Rattle.tokens.proofs.claims.patterns_of.Given as goal

-- the patterns are those so far, and then those that are left
abbrev pub invariant-loop-value : goal.invariant-loop-value
invariant-loop-value l =
    patterns_in (items_view l.values.items) [] ≡ patterns_in (items_view (drop l.value-index l.values.items)) l.topics
