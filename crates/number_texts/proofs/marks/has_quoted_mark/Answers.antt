use Rattle.number_texts.proofs.Found.{unless_found}
use Rattle.number_texts.proofs.marks.has_quoted_mark.Goals as goal

pub returns : goal.returns
returns c = λ is. unless_found c.contains.result c.args.text.now c.contains.ensures.cases is
