use Rattle.number_texts.proofs.Changing.{mark_cuts}
use Rattle.number_texts.proofs.marks.behind_mark.Goals as goal

pub range_from-requires : goal.range_from-requires
range_from-requires c = λ some. mark_cuts c.args.text.now c.utf8.text c.requires
