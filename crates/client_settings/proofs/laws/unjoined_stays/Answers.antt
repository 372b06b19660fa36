use Rattle.client_settings.proofs.Unjoined.{unjoined_stays}
use Rattle.client_settings.proofs.laws.unjoined_stays.Goals as goal

pub returns : goal.returns
returns c = unjoined_stays
