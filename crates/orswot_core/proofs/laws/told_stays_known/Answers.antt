use Rattle.orswot_core.proofs.LawFacts.{learns, joins_keep, steps_keep, known_changes_nothing}
use Rattle.orswot_core.proofs.laws.told_stays_known.Goals as goal

pub returns : goal.returns
returns c = record { learns = learns; joins = joins_keep; steps = steps_keep; nothing = known_changes_nothing }
