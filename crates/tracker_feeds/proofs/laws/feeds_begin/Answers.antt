use Rattle.tracker_feeds.proofs.LawLemmas.{begins, same, next_free, can_deliver}
use Rattle.tracker_feeds.proofs.laws.feeds_begin.Goals as goal

pub returns-clause-begins : goal.returns-clause-begins
returns-clause-begins c = begins

pub returns-clause-same : goal.returns-clause-same
returns-clause-same c = same

pub returns-clause-free : goal.returns-clause-free
returns-clause-free c = next_free

pub returns-clause-delivers : goal.returns-clause-delivers
returns-clause-delivers c = can_deliver
