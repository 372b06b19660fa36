use Rattle.client_settings.proofs.Late.{late_unjoined}
use Rattle.client_settings.proofs.laws.late_is_unjoined.Goals as goal

pub returns : goal.returns
returns c = late_unjoined
