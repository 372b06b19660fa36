use Rattle.number_texts.proofs.Parts.{between_boundary}
use Rattle.number_texts.proofs.pieces.between_end.Goals as goal

pub returns-clause-boundary : goal.returns-clause-boundary
returns-clause-boundary c = rw (c.between_len.ensures, c.as_bytes.ensures.value) (between_boundary c.args.text.now)
