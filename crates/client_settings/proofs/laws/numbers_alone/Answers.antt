use Rattle.client_settings.proofs.Plain.{numbers_alone}
use Rattle.client_settings.proofs.laws.numbers_alone.Goals as goal

pub returns : goal.returns
returns c = numbers_alone
