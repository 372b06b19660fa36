use Rattle.std.proofs.Common.{◌≡◌}
use Rattle.tracker_feeds.specs.Rings.{seen_at}
use Rattle.tracker_feeds.specs.Quiet.{all_idle}
use Rattle.tracker_feeds.proofs.followers.are_idle.Given as goal

abbrev pub invariant-loop-number : goal.invariant-loop-number
invariant-loop-number l = all_idle (seen_at l.rings) l._number-iterator ≡ all_idle (seen_at l.rings) l.followers.entries
