use Rattle.presence_journal_cuts.proofs.CutShort.{parts_cut_short}
use Rattle.presence_journal_laws.proofs.laws.parts_cut_short.Goals as goal

pub returns : goal.returns
returns c = parts_cut_short
