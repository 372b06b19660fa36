use Rattle.std.proofs.Common.{◌≡◌, ◌||◌, ◌&&◌, drop}
use Rattle.std.specs.FinSet as set
use Rattle.presence_base.specs.declared.dots.Dot.{Dot}
use Rattle.presence_base.specs.Order.{same_replica}
use Rattle.dot_context.specs.Runs.{holds}
use Rattle.delta_range.proofs.runs.run_set.Given as goal

abbrev pub invariant-loop-run : goal.invariant-loop-run
invariant-loop-run l = (q : Dot) → (set.contains l.dots q || (same_replica q.replica l.owner && holds (drop l.run-index l.runs) q.count)) ≡ (same_replica q.replica l.owner && holds l.runs q.count)
