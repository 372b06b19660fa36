use Rattle.tracker_feeds.proofs.FeedsLemmas.{empty_sound, empty_fed}
use Rattle.tracker_feeds.proofs.feeds.Feeds.new.Goals as goal

pub invariant_of-result : goal.invariant_of-result
invariant_of-result c = empty_sound c.new-rings.result c.new-followers.result.entries c.new-rings.ensures.empty c.new-followers.ensures.empty

pub returns : goal.returns
returns c = empty_fed c.new-rings.result c.new-followers.result.entries c.new-followers.ensures.empty
