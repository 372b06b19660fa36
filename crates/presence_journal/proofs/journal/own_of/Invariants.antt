use Rattle.std.proofs.Common.{◌≡◌}
use Rattle.presence_journal.specs.History.{Begin, onto, own}
use Rattle.presence_journal.proofs.Walking.{Reached}
use Rattle.presence_journal.proofs.journal.own_of.Given as goal

abbrev pub invariant-loop-entry : goal.invariant-loop-entry
invariant-loop-entry l = Reached (onto (Begin l.start) l.entries) l.entries l.entry-index (λ h. l.own ≡ own h)
