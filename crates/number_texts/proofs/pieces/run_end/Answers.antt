use Rattle.number_texts.proofs.Parts.{run_boundary}
use Rattle.number_texts.proofs.pieces.run_end.Goals as goal

pub returns-clause-boundary : goal.returns-clause-boundary
returns-clause-boundary c = rw (c.run_len.ensures, c.as_bytes.ensures.value) (run_boundary c.args.text.now c.utf8.text)
