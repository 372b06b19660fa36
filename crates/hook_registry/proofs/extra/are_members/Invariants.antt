use Rattle.std.proofs.Common.{◌≡◌, map, drop}
use Rattle.hook_registry.specs.Extras.{given_member, are_extra_members}
use Rattle.hook_registry.proofs.extra.are_members.Given as goal

-- what is left decides
abbrev pub invariant-loop-name : goal.invariant-loop-name
invariant-loop-name l = are_extra_members (map given_member l.given) ≡ are_extra_members (map given_member (drop l.name-index l.given))
