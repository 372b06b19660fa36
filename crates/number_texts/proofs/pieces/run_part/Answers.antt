use Rattle.number_texts.proofs.Parts.{front, run_split}
use Rattle.number_texts.proofs.pieces.run_part.Goals as goal

pub returns : goal.returns
returns c =
    let cut = run_split c.args.text.now c.requires.some c.requires.run in
    rw (c.range.ensures.value, c.range_from.ensures.value, front c.args.text.now c.run_end-end.result, c.run_end-end.ensures.end) cut
