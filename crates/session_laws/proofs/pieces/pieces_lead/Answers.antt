use Rattle.session_laws.proofs.PieceRuns.{pieces_lead}
use Rattle.session_laws.proofs.pieces.pieces_lead.Goals as goal

pub returns : goal.returns
returns g c = pieces_lead g.P.Port.step
