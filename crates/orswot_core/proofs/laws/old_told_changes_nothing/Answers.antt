use Rattle.orswot_core.proofs.LawFacts.{old_changes_nothing}
use Rattle.orswot_core.proofs.laws.old_told_changes_nothing.Goals as goal

pub returns : goal.returns
returns c = old_changes_nothing
