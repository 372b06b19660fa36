-- How a run of the server may end.
use Rattle.std.specs.Prelude.{◌≡◌, ◌⊎◌, ℕ, List, Option, None, Some}
use Rattle.presence_options.specs.declared.options.ServeOptions.{ServeOptions}
use Rattle.shard_pool.specs.Seats.{Hands}
use Rattle.presence_node_main.specs.ServeEnds.{Settles}
use Rattle.presence_node_main.specs.declared.end.ServeEnd.{ServeEnd}
use Rattle.presence_node_main.specs.declared.end.ServeEnd.TheVariants.{Stopped, NotSettled, PortTaken, NoPort, LinkPortTaken, NoLinkPort, MetricsPortTaken, NoMetricsPort, NoThreads, Memory}

-- the ports of a run: of clients, and of links and metrics, if there are such
pub record Ports : Type 0 where
  pub clients : ℕ
  pub links : Option ℕ
  pub metrics : Option ℕ

-- the port is this one, if there is one
abbrev pub IsPortOf : ℕ → Option ℕ → Type 0
IsPortOf port None = ⊥
IsPortOf port (Some given) = port ≡ given

-- How a run at these ports of clients, of links and of metrics may end. What is told of receipts is so of seats of that many
-- workers.
abbrev pub IsEndOf : List ℕ → ℕ → ℕ → Ports → ServeEnd → Type 0
IsEndOf node shards workers ports (Stopped receipts) = (hs : List Hands)
    × Settles node shards workers hs (Stopped receipts)
IsEndOf node shards workers ports (NotSettled fault) = (hs : List Hands)
    × Settles node shards workers hs (NotSettled fault)
IsEndOf node shards workers ports (PortTaken taken) = taken ≡ ports.clients
IsEndOf node shards workers ports (NoPort refused) = refused ≡ ports.clients
IsEndOf node shards workers ports (LinkPortTaken taken) = IsPortOf taken ports.links
IsEndOf node shards workers ports (NoLinkPort refused) = IsPortOf refused ports.links
IsEndOf node shards workers ports (MetricsPortTaken taken) = IsPortOf taken ports.metrics
IsEndOf node shards workers ports (NoMetricsPort refused) = IsPortOf refused ports.metrics
IsEndOf node shards workers ports NoThreads = Unit {0}
IsEndOf node shards workers ports Memory = Unit {0}

abbrev pub ports_of : ServeOptions → Ports
ports_of options =
    record { clients = options.port; links = options.link_port; metrics = options.reports.metrics_port }

abbrev pub IsEndFor : ServeOptions → ServeEnd → Type 0
IsEndFor options end = IsEndOf options.name options.shards options.workers (ports_of options) end

-- how a run ends that can't have this port of links, or this one of metrics
abbrev pub IsLinkEnd : ℕ → ServeEnd → Type 0
IsLinkEnd port end = (end ≡ Memory) ⊎ ((end ≡ LinkPortTaken port) ⊎ (end ≡ NoLinkPort port))

abbrev pub IsMetricsEnd : ℕ → ServeEnd → Type 0
IsMetricsEnd port end = (end ≡ Memory) ⊎ ((end ≡ MetricsPortTaken port) ⊎ (end ≡ NoMetricsPort port))
