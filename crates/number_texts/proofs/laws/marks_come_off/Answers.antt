use Rattle.number_texts.proofs.Back.{marks_back}
use Rattle.number_texts.proofs.laws.marks_come_off.Goals as goal

pub returns : goal.returns
returns c = marks_back
