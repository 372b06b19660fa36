use Rattle.std.proofs.Common.{drop}
use Rattle.tracker_known.specs.Picks.{out_extras}
use Rattle.tracker_known.proofs.GatherLemmas.{Still}
use Rattle.tracker_known.proofs.merge_turn.gather_extras.Given as goal

abbrev pub invariant-loop-dot : goal.invariant-loop-dot
invariant-loop-dot l = Still l.set.live (out_extras l.others l.told (drop l.dot-index l.extras)) l.rows (out_extras l.others l.told l.extras) l.fn.rows
