use Rattle.std.proofs.Common.{◌≡◌, length, map}
use Rattle.hook_registry.specs.Extras.{given_member, names_differ}
use Rattle.hook_registry.proofs.extra.differ.Given as goal

-- what is left decides
abbrev pub invariant-loop-first : goal.invariant-loop-first
invariant-loop-first l = names_differ (map given_member l.given) ≡ names_differ (map given_member l.rest)

abbrev pub decreases-loop-first : goal.decreases-loop-first
decreases-loop-first l = length l.rest
