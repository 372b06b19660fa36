use Rattle.serve_connections.proofs.SigningLemmas.{all_granted}
use Rattle.serve_connections.proofs.signing_laws.what_is_asked_is_granted.Goals as goal

pub returns : goal.returns
returns g c = λ pid. all_granted (g.P.Port.step pid)
