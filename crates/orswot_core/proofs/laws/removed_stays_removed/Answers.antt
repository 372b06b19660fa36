use Rattle.orswot_core.proofs.LawFacts.{removed_stays, removals_heard}
use Rattle.orswot_core.proofs.laws.removed_stays_removed.Goals as goal

pub returns-clause-heard : goal.returns-clause-heard
returns-clause-heard c = removals_heard

pub returns-clause-stays : goal.returns-clause-stays
returns-clause-stays c = removed_stays
