use Rattle.std.proofs.Common.{◌≡◌, ◌++◌}
use Rattle.std.specs.List.{list_all}
use Rattle.orswot_core.specs.Checks.{is_raw_row}
use Rattle.orswot_core.proofs.raw.checked_rows.Given as goal

abbrev pub invariant-loop-dot : goal.invariant-loop-dot
invariant-loop-dot l = record {
  all : l.rows.items ++ l.dot-iterator.rest.items ≡ l.fn.live.items;
  limited : list_all (is_raw_row l.shard l.shards) l.dot-iterator.rest.items ≡ list_all (is_raw_row l.shard l.shards) l.fn.live.items;
}
