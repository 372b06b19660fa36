use Rattle.std.proofs.Common.{◌≡◌}
use Rattle.presence_journal.specs.History.{Begin, onto}
use Rattle.presence_journal.proofs.Walking.{Reached}
use Rattle.presence_journal_walks.specs.Changes.{differs, any_told}
use Rattle.presence_journal_walks.proofs.changing.changes_topic.Given as goal

abbrev pub invariant-loop-entry : goal.invariant-loop-entry
invariant-loop-entry l = Reached (onto (Begin l.start) l.after) l.after l.entry-index (λ h. l.changes ≡ any_told (differs (onto (Begin l.start) l.before) (onto (Begin l.start) l.after) l.topic) h)
