use Rattle.std.proofs.Common.{◌≡◌, drop}
use Rattle.presence_journal.specs.Queue.{is_current}
use Rattle.presence_journal_walks.proofs.topics.is_listed.Given as goal

abbrev pub invariant-loop-listed : goal.invariant-loop-listed
invariant-loop-listed l = is_current l.fn.numbers l.number ≡ is_current (drop l.listed-index l.fn.numbers) l.number
