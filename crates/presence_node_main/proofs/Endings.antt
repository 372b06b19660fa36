-- How a run of the server may end.
use Rattle.std.specs.Prelude.{ℕ, List}
use Rattle.shard_pool.specs.Seats.{Hands}
use Rattle.presence_node_main.specs.declared.end.ServeEnd.{ServeEnd}
use Rattle.presence_node_main.specs.declared.end.ServeEnd.TheVariants.{Stopped, NotSettled, PortTaken, NoPort, LinkPortTaken, NoLinkPort, MetricsPortTaken, NoMetricsPort, NoThreads, Memory}
use Rattle.presence_node_main.specs.ServeEnds.{Settles}
use Rattle.presence_node_main.specs.Ends.{IsEndOf, Ports}

-- what settles seats is an end of a run at any port
pub settled_ends : (node : List ℕ) (shards workers : ℕ) (ports : Ports) (hs : List Hands) (end : ServeEnd)
    → Settles node shards workers hs end → IsEndOf node shards workers ports end
settled_ends node shards workers ports hs (Stopped receipts) settles = (hs, settles)
settled_ends node shards workers ports hs (NotSettled fault) settles = (hs, settles)
settled_ends node shards workers ports hs (PortTaken taken) settles = absurd settles
settled_ends node shards workers ports hs (NoPort refused) settles = absurd settles
settled_ends node shards workers ports hs (LinkPortTaken taken) settles = absurd settles
settled_ends node shards workers ports hs (NoLinkPort refused) settles = absurd settles
settled_ends node shards workers ports hs (MetricsPortTaken taken) settles = absurd settles
settled_ends node shards workers ports hs (NoMetricsPort refused) settles = absurd settles
settled_ends node shards workers ports hs NoThreads settles = absurd settles
settled_ends node shards workers ports hs Memory settles = tt
