use Rattle.std.proofs.Common.{◌≡◌, length}
use Rattle.dot_context.specs.Forms.{cloud_of}
use Rattle.dot_context.proofs.views.next_cloud.Given as goal

abbrev pub invariant-loop-replica : goal.invariant-loop-replica
invariant-loop-replica l = cloud_of l.entries ≡ cloud_of l.fn.entries

abbrev pub decreases-loop-replica : goal.decreases-loop-replica
decreases-loop-replica l = length l.entries
