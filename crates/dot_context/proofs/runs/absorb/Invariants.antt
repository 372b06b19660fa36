use Rattle.std.proofs.Common.{◌≡◌, ◌≤◌, ◌<◌}
use Rattle.std.specs.BTreeMap.{get, btree_map_len}
use Rattle.std.specs.Ordering.{nat_cmp}
use Rattle.dot_context.specs.Runs.{Absorbs}
use Rattle.dot_context.proofs.runs.absorb.Given as goal

abbrev pub invariant-loop-from : goal.invariant-loop-from
invariant-loop-from l = record {
  order : l.start < l.reach;
  far : l.end ≤ l.reach;
  start : get nat_cmp l.runs l.start ≡ get nat_cmp l.fn.runs l.start;
  absorbs : Absorbs l.fn.runs.entries l.runs.entries l.start l.end l.reach;
}

abbrev pub decreases-loop-from : goal.decreases-loop-from
decreases-loop-from l = btree_map_len l.runs
