use Rattle.tracker_feeds.proofs.LawLemmas.{topics_are_those, waits_are_those, items_are_those}
use Rattle.tracker_feeds.proofs.laws.feeds_answer.Goals as goal

pub returns-clause-topics : goal.returns-clause-topics
returns-clause-topics c = topics_are_those

pub returns-clause-waits : goal.returns-clause-waits
returns-clause-waits c = waits_are_those

pub returns-clause-items : goal.returns-clause-items
returns-clause-items c = items_are_those
