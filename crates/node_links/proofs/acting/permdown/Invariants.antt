use Rattle.std.proofs.Common.{◌-◌}
use Rattle.node_links.proofs.Playing.{DownLeads}
use Rattle.node_links.proofs.acting.permdown.Given as goal

-- what comes of the shards that are left, comes of all
abbrev pub invariant-loop-shard : goal.invariant-loop-shard
invariant-loop-shard g l = DownLeads g.P.LinkPort.step l.replica l.shard-end 0 l.initial.port (l.shard-end - l.shard) l.shard l.port
