use Rattle.std.proofs.Common.{◌≡◌, length}
use Rattle.json_parts.specs.Places.{are_in_range}
use Rattle.json_parts.proofs.whole.are_numbers_in_range.Given as goal

abbrev pub invariant-loop-token : goal.invariant-loop-token
invariant-loop-token l = are_in_range l.reader ≡ are_in_range l.initial.reader

abbrev pub decreases-loop-token : goal.decreases-loop-token
decreases-loop-token l = length l.reader
