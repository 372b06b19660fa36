use Rattle.std.proofs.Common.{ℕ, cond, nat_le, None, Some, ap}
use Rattle.tracker_feeds.specs.Rings.{seen, with_followers}
use Rattle.tracker_feeds.proofs.rings.Ring.part.Goals as goal

pub returns : goal.returns
returns c = ap (λ (n : ℕ). cond (nat_le c.args.self.now.followers 1) None (Some (with_followers (seen c.args.self.now) n))) c.saturating_sub-self.ensures
