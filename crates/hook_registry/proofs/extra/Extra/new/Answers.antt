use Rattle.std.proofs.Common.{rules, IsTrue, map, sym, subst}
use Rattle.hook_registry.specs.Extras.{given_member, is_extra}
use Rattle.hook_registry.proofs.Gathering.{gathered_is_extra}
use Rattle.hook_registry.proofs.extra.Extra.new.Goals as goal

pub invariant_of-result : goal.invariant_of-result
invariant_of-result c =
    subst (λ ms. IsTrue (is_extra ms)) (sym c.in_ok-members.ensures) (gathered_is_extra (map given_member c.args.members.items) (search rules))
