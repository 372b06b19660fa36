use Rattle.tracker_feeds.proofs.LawLemmas.{delivered, quiet}
use Rattle.tracker_feeds.proofs.laws.deliveries_follow.Goals as goal

pub returns-clause-delivery : goal.returns-clause-delivery
returns-clause-delivery c = delivered

pub returns-clause-quiet : goal.returns-clause-quiet
returns-clause-quiet c = quiet
