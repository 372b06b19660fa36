use Rattle.std.proofs.Common.{rules}
use Rattle.presence_journal_known.proofs.walked.row_of.Goals as goal

pub returns : goal.returns
returns c = search rules
