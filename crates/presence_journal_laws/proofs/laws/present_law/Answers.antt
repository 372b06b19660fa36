use Rattle.presence_journal.proofs.FoldPresent.{present_is}
use Rattle.presence_journal_laws.proofs.laws.present_law.Goals as goal

pub returns : goal.returns
returns c = present_is
