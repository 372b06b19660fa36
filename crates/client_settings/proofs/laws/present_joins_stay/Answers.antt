use Rattle.client_settings.proofs.Late.{present_stays}
use Rattle.client_settings.proofs.laws.present_joins_stay.Goals as goal

pub returns : goal.returns
returns c = present_stays
