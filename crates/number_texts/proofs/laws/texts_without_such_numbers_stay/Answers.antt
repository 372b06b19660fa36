use Rattle.number_texts.proofs.Back.{marked_kept}
use Rattle.number_texts.proofs.laws.texts_without_such_numbers_stay.Goals as goal

pub returns : goal.returns
returns c = marked_kept
