use Rattle.presence_journal_laws.proofs.Covered.{keeps_counts}
use Rattle.presence_journal_laws.proofs.laws.counts_stay.Goals as goal

pub returns : goal.returns
returns c = keeps_counts
