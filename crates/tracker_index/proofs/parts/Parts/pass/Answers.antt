use Rattle.std.proofs.Common.{refl}
use Rattle.tracker_feeds.proofs.LawLemmas as laws
use Rattle.tracker_index.specs.declared.parts.Stage.TheVariants.{Done}
use Rattle.tracker_index.proofs.PassingLemmas.{passed, not_passed}
use Rattle.tracker_index.proofs.parts.Parts.pass.Goals as goal

pub returns-in_err-feed-clause-kept : goal.returns-in_err-feed-clause-kept
returns-in_err-feed-clause-kept c =
    let p = c.args.self.now in
    not_passed c.args.entry.now p (record { known = p.known; shown = p.shown; feeds = c.feed.new.feeds; untold = p.untold; stage = p.stage })
    laws.same c.requires.stage c.in_err-feed.ensures.err refl refl refl c.requires.stage

pub returns-clause-kept : goal.returns-clause-kept
returns-clause-kept c =
    let p = c.args.self.now in
    passed c.args.entry.now p (record { known = p.known; shown = p.shown; feeds = c.feed.new.feeds; untold = p.untold; stage = Done }) (record { joins = c.new.result; leaves = c.new-2.result })
    c.requires.stage c.requires.rows c.new.ensures.items c.new-2.ensures.items c.in_ok-feed.ensures.ok refl refl refl refl
