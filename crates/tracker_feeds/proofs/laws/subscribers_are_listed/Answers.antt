use Rattle.tracker_feeds.proofs.ListingLemmas.{listed_are_those, current_are_those}
use Rattle.tracker_feeds.proofs.laws.subscribers_are_listed.Goals as goal

pub returns-clause-listed : goal.returns-clause-listed
returns-clause-listed c = listed_are_those

pub returns-clause-current : goal.returns-clause-current
returns-clause-current c = current_are_those
