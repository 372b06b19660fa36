use Rattle.std.proofs.Common.{◌≡◌, ◌++◌, drop}
use Rattle.delta_range.specs.Longest.{coalesced_from, coalesced}
use Rattle.delta_range.proofs.runs.coalesced.Given as goal

abbrev pub invariant-loop-run : goal.invariant-loop-run
invariant-loop-run l = l.longest.items ++ coalesced_from l.last (drop l.run-index l.rest) ≡ coalesced l.fn.runs
