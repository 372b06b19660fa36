use Rattle.presence_journal_laws.proofs.Told.{keeps_topics, subscribers_are_behind, none_is_current}
use Rattle.presence_journal_laws.proofs.laws.subscribers_stay.Goals as goal

pub returns-clause-topics : goal.returns-clause-topics
returns-clause-topics c = keeps_topics

pub returns-clause-behind : goal.returns-clause-behind
returns-clause-behind c = subscribers_are_behind

pub returns-clause-all : goal.returns-clause-all
returns-clause-all c = none_is_current
