use Rattle.orswot_core.proofs.SoundFacts.{nothing_sound}
use Rattle.orswot_core.proofs.set.Orswot.new.Goals as goal

pub invariant_of-result : goal.invariant_of-result
invariant_of-result c = nothing_sound c.new.result c.new-2.result c.new.ensures c.new-2.ensures.empty
