use Rattle.presence_journal.proofs.Merges.{own_steps_alone}
use Rattle.presence_journal_laws.proofs.laws.own_steps_alone.Goals as goal

pub returns : goal.returns
returns c = own_steps_alone
