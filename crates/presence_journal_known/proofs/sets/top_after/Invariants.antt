use Rattle.std.proofs.Common.{◌-◌}
use Rattle.presence_base.specs.declared.dots.TheConstants.{MAX_COUNT}
use Rattle.presence_journal.specs.History.{Begin, onto}
use Rattle.presence_journal_known.proofs.KnownLemmas.{CoversUpTo}
use Rattle.presence_journal_known.proofs.sets.top_after.Given as goal

abbrev pub invariant-loop-top : goal.invariant-loop-top
invariant-loop-top l = CoversUpTo (onto (Begin l.start) l.entries) l.replica l.top

abbrev pub decreases-loop-top : goal.decreases-loop-top
decreases-loop-top l = MAX_COUNT - l.top
