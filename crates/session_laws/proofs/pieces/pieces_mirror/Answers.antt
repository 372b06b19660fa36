use Rattle.session_laws.proofs.PieceRuns.{pieces_mirror}
use Rattle.session_laws.proofs.pieces.pieces_mirror.Goals as goal

pub returns : goal.returns
returns c = pieces_mirror
