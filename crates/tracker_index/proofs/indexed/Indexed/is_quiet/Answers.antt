use Rattle.tracker_index.proofs.FeedLemmas.{tells_quiet}
use Rattle.tracker_index.proofs.IndexedLemmas.{kept_seen}
use Rattle.tracker_index.proofs.indexed.Indexed.is_quiet.Goals as goal

pub returns : goal.returns
returns c =
    let x = c.self.inside in
    let kept = kept_seen c.args.self.now x.journal x.parts c.self.view_is c.requires c.self.invariant in
    tells_quiet c.args.self.now.history x.parts.feeds c.is_quiet.result kept.feeds c.is_quiet.ensures
