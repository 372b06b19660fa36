use Rattle.std.proofs.Common.{◌≡◌, ◌++◌}
use Rattle.presence_journal_cuts.proofs.listing.listed_chains.Given as goal

abbrev pub invariant-loop-count : goal.invariant-loop-count
invariant-loop-count l = l.list.items ++ l.count-iterator ≡ l.chains.entries
