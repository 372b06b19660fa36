use Rattle.std.proofs.Common.{◌≡◌, map, drop}
use Rattle.hook_registry.specs.Extras.{given_member, has_name}
use Rattle.hook_registry.proofs.extra.is_given.Given as goal

-- what is left decides
abbrev pub invariant-loop-other : goal.invariant-loop-other
invariant-loop-other l = has_name (map given_member l.given) l.name ≡ has_name (map given_member (drop l.other-index l.given)) l.name
