use Rattle.std.proofs.Common.{drop}
use Rattle.tracker_known.specs.Picks.{out_ranges}
use Rattle.tracker_known.proofs.GatherLemmas.{Still}
use Rattle.tracker_known.proofs.merge_turn.gather_ranges.Given as goal

abbrev pub invariant-loop-range : goal.invariant-loop-range
invariant-loop-range l = Still l.set.live (out_ranges l.others l.told (drop l.range-index l.ranges)) l.rows (out_ranges l.others l.told l.ranges) l.fn.rows
