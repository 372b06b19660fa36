use Rattle.replica_status.proofs.TableFacts.{stays_gone}
use Rattle.replica_status.proofs.laws.gone_stays_gone.Goals as goal

pub returns : goal.returns
returns c = stays_gone
