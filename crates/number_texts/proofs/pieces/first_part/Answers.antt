use Rattle.number_texts.proofs.Parts.{first_cuts}
use Rattle.number_texts.proofs.pieces.first_part.Goals as goal

pub range_from-requires : goal.range_from-requires
range_from-requires c = λ some. first_cuts c.args.text.now c.as_bytes.result.now c.utf8.text c.requires c.as_bytes.ensures.value c.if-first-eq34.true
