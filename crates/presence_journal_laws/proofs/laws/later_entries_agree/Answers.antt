use Rattle.presence_journal_laws.proofs.Later.{stays_alike, go_on_telling_the_same}
use Rattle.presence_journal_laws.proofs.laws.later_entries_agree.Goals as goal

pub returns-clause-alike : goal.returns-clause-alike
returns-clause-alike c = stays_alike

pub returns-clause-say : goal.returns-clause-say
returns-clause-say c = go_on_telling_the_same
