use Rattle.std.proofs.Common.{◌&&◌, not}
use Rattle.std.specs.BTreeSet.{contains}
use Rattle.presence_base.specs.Order.{dot_cmp}
use Rattle.tracker_known.specs.Picks.{out_of}
use Rattle.tracker_known.proofs.GatherLemmas.{Still, keyed_by}
use Rattle.tracker_known.proofs.merge_turn.gather_range.Given as goal

abbrev pub invariant-loop-dot : goal.invariant-loop-dot
invariant-loop-dot l = Still l.set.live (λ q. keyed_by l.dot-iterator q && not (contains dot_cmp l.told q)) l.rows (out_of l.told l.range) l.fn.rows
