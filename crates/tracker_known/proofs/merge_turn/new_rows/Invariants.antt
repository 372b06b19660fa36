use Rattle.std.proofs.Common.{◌≡◌, ◌++◌, drop}
use Rattle.std.specs.List.{filter}
use Rattle.tracker_known.specs.Picks.{is_new}
use Rattle.tracker_known.proofs.merge_turn.new_rows.Given as goal

abbrev pub invariant-loop-row : goal.invariant-loop-row
invariant-loop-row l = l.rows.items ++ filter (λ x. is_new l.set l.others x.0) (drop l.row-index l.live) ≡ filter (λ x. is_new l.set l.others x.0) l.live
