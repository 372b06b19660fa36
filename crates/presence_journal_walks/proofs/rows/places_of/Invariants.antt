use Rattle.std.proofs.Common.{◌≡◌, []}
use Rattle.presence_journal.specs.Walk.{placed}
use Rattle.presence_journal_walks.proofs.rows.places_of.Given as goal

abbrev pub invariant-loop-dot : goal.invariant-loop-dot
invariant-loop-dot l = placed [] l.fn.rows.entries ≡ placed l.places.entries l.dot-iterator
