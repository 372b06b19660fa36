use Rattle.std.proofs.Common.{◌+◌, ap}
use Rattle.tracker_index.proofs.StartingLemmas.{is_start, only_current, counts_where}
use Rattle.tracker_index.proofs.starting.start_of.Goals as goal

pub returns-clause-stands : goal.returns-clause-stands
returns-clause-stands c =
    let h = c.args.journal.now in
    let kept = c.requires.kept in
    is_start h c.args.parts.now.feeds _ c.requires.legal c.requires.room kept.feeds
    (ap (λ n. n + 1) c.last_number.ensures.number) c.own.ensures (c.count.ensures h kept.known) (c.time.ensures h kept.known) (c.last_cut.ensures h kept.untold) c.seats_of.ensures
    (c.in_ok-content.ensures.full h kept.known) c.in_ok-content.ensures.sound (c.in_ok-standings.ensures h kept.known)
    (c.in_ok-older.ensures h kept.untold) (c.in_ok-chains.ensures h kept.untold) (c.in_ok-kept.ensures h kept.untold) c.in_ok-subscribers.ensures
    (only_current h c.args.parts.now.feeds _ c.args.stay kept.feeds c.in_ok-current.ensures.stay c.in_ok-current.ensures.none)

pub returns-clause-current : goal.returns-clause-current
returns-clause-current c = counts_where c.args.journal.now c.args.parts.now.feeds _ c.args.stay c.requires.kept.feeds c.in_ok-current.ensures.stay c.in_ok-current.ensures.none
