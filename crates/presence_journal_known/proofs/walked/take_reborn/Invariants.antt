use Rattle.presence_journal.specs.History.{Begin, onto}
use Rattle.presence_journal_known.proofs.RebornLemmas.{AgainAt}
use Rattle.presence_journal_known.proofs.walked.take_reborn.Given as goal

abbrev pub invariant-loop-pair : goal.invariant-loop-pair
invariant-loop-pair l = AgainAt (onto (Begin l.start) l.fn.entries) l.entry l.pairs l.pair-index l.set
