use Rattle.std.proofs.Common.{◌≡◌, ◌+◌, ◌≤◌, drop}
use Rattle.tracker_index.specs.Starting.{seats_in}
use Rattle.tracker_index.proofs.starting.count_seats.Given as goal

abbrev pub invariant-loop-entry : goal.invariant-loop-entry
invariant-loop-entry l = (l.count + seats_in (drop l.entry-index l.entries) ≡ seats_in l.entries) × (l.count ≤ l.entry-index)
