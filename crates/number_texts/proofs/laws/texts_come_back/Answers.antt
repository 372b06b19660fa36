use Rattle.number_texts.proofs.Comings.{come_back}
use Rattle.number_texts.proofs.laws.texts_come_back.Goals as goal

pub returns : goal.returns
returns c = come_back
