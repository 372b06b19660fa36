use Rattle.number_texts.proofs.Back.{unmarked_kept}
use Rattle.number_texts.proofs.laws.texts_without_marks_stay.Goals as goal

pub returns : goal.returns
returns c = unmarked_kept
