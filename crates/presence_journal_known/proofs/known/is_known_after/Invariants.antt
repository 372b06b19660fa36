use Rattle.presence_journal_known.proofs.KnownLemmas.{KnownTo}
use Rattle.presence_journal_known.proofs.known.is_known_after.Given as goal

abbrev pub invariant-loop-place : goal.invariant-loop-place
invariant-loop-place l = KnownTo l.start l.entries l.place l.dot l.is_known l.own l.used
