use Rattle.std.proofs.Common.{◌≡◌, ◌++◌}
use Rattle.tracker_shown.specs.Listing.{rows_of, rows_between}
use Rattle.tracker_shown.proofs.listing.copy_between.Given as goal

abbrev pub invariant-loop-stand : goal.invariant-loop-stand
invariant-loop-stand l = l.copies.items ++ rows_of l.stand-iterator ≡ rows_between l.fn.ends l.fn.rows
