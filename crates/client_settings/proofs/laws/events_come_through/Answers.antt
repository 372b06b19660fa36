use Rattle.client_settings.proofs.Through.{events_through}
use Rattle.client_settings.proofs.laws.events_come_through.Goals as goal

pub returns : goal.returns
returns c = events_through
