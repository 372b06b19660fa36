use Rattle.std.proofs.Common.{drop}
use Rattle.presence_journal.specs.History.{has_dot}
use Rattle.tracker_known.proofs.GatherLemmas.{Still}
use Rattle.tracker_known.proofs.gather.gather_dots.Given as goal

abbrev pub invariant-loop-dot : goal.invariant-loop-dot
invariant-loop-dot l = Still l.set.live (has_dot (drop l.dot-index l.dots)) l.rows (has_dot l.dots) l.fn.rows
