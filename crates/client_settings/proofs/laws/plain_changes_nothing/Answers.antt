use Rattle.client_settings.proofs.Plain.{changes_nothing}
use Rattle.client_settings.proofs.laws.plain_changes_nothing.Goals as goal

pub returns : goal.returns
returns c = changes_nothing
