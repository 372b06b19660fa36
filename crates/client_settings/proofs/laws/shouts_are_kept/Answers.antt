use Rattle.client_settings.proofs.Shouted.{shouts_are_kept}
use Rattle.client_settings.proofs.laws.shouts_are_kept.Goals as goal

pub returns : goal.returns
returns c = shouts_are_kept
