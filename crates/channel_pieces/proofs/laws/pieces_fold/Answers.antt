use Rattle.channel_pieces.proofs.Folding.{pieces_fold}
use Rattle.channel_pieces.proofs.laws.pieces_fold.Goals as goal

pub returns : goal.returns
returns c = pieces_fold
