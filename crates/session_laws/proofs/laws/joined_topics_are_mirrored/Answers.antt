use Rattle.session_laws.proofs.Kept.{stays_in_step, joined_are_mirrored}
use Rattle.session_laws.proofs.laws.joined_topics_are_mirrored.Goals as goal

pub returns-clause-in_step : goal.returns-clause-in_step
returns-clause-in_step c = stays_in_step

pub returns-clause-mirrored : goal.returns-clause-mirrored
returns-clause-mirrored c = joined_are_mirrored
