use Rattle.client_settings.proofs.Through.{shouts_through}
use Rattle.client_settings.proofs.laws.shouts_come_through.Goals as goal

pub returns : goal.returns
returns c = shouts_through
