use Rattle.phx_message.proofs.Decoded.{decoded_orderly, reads_back}
use Rattle.phx_message.proofs.laws.texts_read_back.Goals as goal

pub returns-clause-decoded : goal.returns-clause-decoded
returns-clause-decoded c = decoded_orderly

pub returns-clause-again : goal.returns-clause-again
returns-clause-again c = reads_back
