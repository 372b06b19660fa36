use Rattle.std.proofs.Common.{sym, ◌∙◌}
use Rattle.presence_journal.specs.History.{Begin, onto}
use Rattle.presence_journal_known.proofs.OwnLemmas.{untracked_none}
use Rattle.presence_journal_known.proofs.walked.take_untracked.Goals as goal

pub returns-then-is_empty : goal.returns-then-is_empty
returns-then-is_empty c =
    let h = onto (Begin c.args.start.now) c.args.entries.now in
    untracked_none h c.args.entry.now c.args.dots.now c.args.set.now c.requires.legal c.requires.holds c.requires.alone c.requires.outcome (sym c.is_empty.ensures ∙ c.if-is_empty.true)
