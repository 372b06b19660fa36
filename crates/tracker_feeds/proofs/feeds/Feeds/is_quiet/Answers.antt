use Rattle.std.proofs.Common.{subst}
use Rattle.tracker_feeds.specs.Fed.{Fed}
use Rattle.tracker_feeds.specs.Rings.{seen_at}
use Rattle.tracker_feeds.specs.Quiet.{TellsIdle}
use Rattle.tracker_feeds.proofs.IdleLemmas.{tells_idle}
use Rattle.tracker_feeds.proofs.feeds.Feeds.is_quiet.Goals as goal

pub returns : goal.returns
returns c =
    let f = c.self.inside in
    subst (λ (v : Fed). TellsIdle v c.are_idle.result) c.self.view_is
    (tells_idle (seen_at f.rings) f.followers.entries f.delivered c.are_idle.result c.are_idle.ensures.ordered c.are_idle.ensures.idle)
