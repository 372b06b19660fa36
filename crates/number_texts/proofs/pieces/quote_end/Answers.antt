use Rattle.number_texts.proofs.Parts.{quote_cuts}
use Rattle.number_texts.proofs.pieces.quote_end.Goals as goal

pub returns-clause-cuts : goal.returns-clause-cuts
returns-clause-cuts c = rw (c.close_of.ensures, c.as_bytes.ensures.value) (quote_cuts c.args.text.now c.utf8.text)
