use Rattle.std.proofs.Common.{ap, arith}
use Rattle.presence_journal.specs.declared.entry.Start.{Start}
use Rattle.presence_journal.specs.History.{start_of}
use Rattle.presence_journal.proofs.HistoryLemmas.{last_number-limit}
use Rattle.tracker_index.proofs.StartingLemmas.{seats_whole, seats_low}
use Rattle.tracker_index.proofs.starting.seats_of.Goals as goal

pub overflow_add-total : goal.overflow_add-total
overflow_add-total c =
    let h = c.args.journal.now in
    let legal = c.entries-entries.ensures.legal in
    let begins = ap (λ (s : Start). s.seated) c.start.ensures in
    omega (arith, seats_whole (start_of h) c.entries-entries.result.now h c.entries-entries.ensures.history, c.count_seats.ensures, begins, seats_low h legal, last_number-limit h legal)

pub returns : goal.returns
returns c =
    let h = c.args.journal.now in
    let begins = ap (λ (s : Start). s.seated) c.start.ensures in
    omega (arith, seats_whole (start_of h) c.entries-entries.result.now h c.entries-entries.ensures.history, c.count_seats.ensures, begins)
