use Rattle.std.proofs.Common.{sym, arith}
use Rattle.number_texts.proofs.Parts.{front, open_split, quoted_split}
use Rattle.number_texts.proofs.pieces.quoted_part.Goals as goal

pub returns-in-Some : goal.returns-in-Some
returns-in-Some c =
    let cut = quoted_split c.args.inner.now c.in-Some.end (sym c.in-Some.ensures.end) c.in-Some.ensures.cuts.0 in
    rw (c.range.ensures.value, c.range_from.ensures.value, front c.args.inner.now c.in-Some.end) cut

pub returns-in-None : goal.returns-in-None
returns-in-None c = (open_split c.args.inner.now (sym c.in-None.ensures.end), omega arith)
