use Rattle.std.proofs.Common.{◌≡◌, drop}
use Rattle.std.specs.BTreeSet.{contains}
use Rattle.presence_base.specs.Order.{text_cmp, same_text}
use Rattle.orswot_core.specs.Checks.{has_repeat}
use Rattle.orswot_core.proofs.LoopFacts.{meets}
use Rattle.node_world.proofs.names.has_name_twice.Given as goal

abbrev pub invariant-loop-name : goal.invariant-loop-name
invariant-loop-name l = meets same_text (contains text_cmp l.seen) (drop l.name-index l.names) ≡ has_repeat same_text l.names
