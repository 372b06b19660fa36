use Rattle.std.proofs.Common.{arith}
use Rattle.std.proofs.lemmas.Grind.{common_steps}
use Rattle.hook_registry.proofs.extra.are_within_limits.Goals as goal

pub returns-then-are_members : goal.returns-then-are_members
returns-then-are_members c = grind (arith, common_steps)
