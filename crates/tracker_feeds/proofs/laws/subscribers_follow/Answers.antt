use Rattle.tracker_feeds.proofs.LawLemmas.{subscribed, taken, unsubscribed}
use Rattle.tracker_feeds.proofs.laws.subscribers_follow.Goals as goal

pub returns-clause-subscribe : goal.returns-clause-subscribe
returns-clause-subscribe c = subscribed

pub returns-clause-take : goal.returns-clause-take
returns-clause-take c = taken

pub returns-clause-unsubscribe : goal.returns-clause-unsubscribe
returns-clause-unsubscribe c = unsubscribed
