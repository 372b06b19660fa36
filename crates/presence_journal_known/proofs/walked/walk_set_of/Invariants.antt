use Rattle.presence_journal_known.proofs.FrontLemmas.{WalkedTo}
use Rattle.presence_journal_known.proofs.walked.walk_set_of.Given as goal

abbrev pub invariant-loop-place : goal.invariant-loop-place
invariant-loop-place l = WalkedTo l.start l.entries l.place l.set l.own l.used
