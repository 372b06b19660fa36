use Rattle.std.proofs.Common.{sym, ◌∙◌, ap, option_copied}
use Rattle.presence_journal.specs.History.{with_prev}
use Rattle.presence_journal_known.proofs.walked.add_again.Goals as goal

pub add-requires-clause-row : goal.add-requires-clause-row
add-requires-clause-row c = c.requires.row c.in_ok-row.row (ap (with_prev c.args.pair.now.1) (sym c.row.ensures ∙ ap option_copied c.in-Some.is) ∙ sym c.in_ok-row.ensures)
