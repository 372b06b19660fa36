use Rattle.client_settings.proofs.Shouted.{events_are_shouts}
use Rattle.client_settings.proofs.laws.events_are_shouts.Goals as goal

pub returns : goal.returns
returns c = events_are_shouts
