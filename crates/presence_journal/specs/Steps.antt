-- The steps, their outcomes and the entries, as the code declares them.
pub use Rattle.presence_journal.specs.declared.step.Step.{Step}
pub use Rattle.presence_journal.specs.declared.entry.Outcome.{Outcome}
pub use Rattle.presence_journal.specs.declared.entry.Entry.{Entry}
pub use Rattle.presence_journal.specs.declared.entry.Start.{Start}
