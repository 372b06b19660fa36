use Rattle.number_texts.proofs.Parts.{front, between_split}
use Rattle.number_texts.proofs.pieces.between_part.Goals as goal

pub returns : goal.returns
returns c =
    let cut = between_split c.args.text.now c.requires.some c.requires.quote c.requires.run in
    rw (c.range.ensures.value, c.range_from.ensures.value, front c.args.text.now c.between_end-end.result, c.between_end-end.ensures.end) cut
