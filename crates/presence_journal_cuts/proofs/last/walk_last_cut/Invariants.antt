use Rattle.std.proofs.Common.{◌≡◌}
use Rattle.presence_journal.specs.History.{last_cut}
use Rattle.presence_journal.proofs.Walking.{Reached}
use Rattle.presence_journal_cuts.proofs.last.walk_last_cut.Given as goal

abbrev pub invariant-loop-entry : goal.invariant-loop-entry
invariant-loop-entry l = Reached l.journal l.entries l.entry-index (λ h. l.last ≡ last_cut h)
