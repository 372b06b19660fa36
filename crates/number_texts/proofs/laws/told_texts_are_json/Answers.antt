use Rattle.number_texts.proofs.Told.{told_is_json}
use Rattle.number_texts.proofs.laws.told_texts_are_json.Goals as goal

pub returns : goal.returns
returns c = told_is_json
