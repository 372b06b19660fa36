-- What `/metrics` tells: each family's lines, in their order.
use Rattle.std.specs.Prelude.{ℕ, List, [], ◌∷◌, codes, Bool, if◌then◌else◌}
use Rattle.serve_metrics.specs.declared.told.AnswersTold.{AnswersTold}
use Rattle.serve_metrics.specs.declared.told.EndsTold.{EndsTold}
use Rattle.serve_metrics.specs.declared.told.LinksTold.{LinksTold}
use Rattle.serve_metrics.specs.declared.told.ProcessTold.{ProcessTold}
use Rattle.serve_metrics.specs.declared.told.ShardsTold.{ShardsTold}
use Rattle.serve_metrics.specs.declared.told.ServerTold.{ServerTold}
use Rattle.serve_metrics.specs.Lines.{Naming, with_count, with_named, with_numbered}
use Rattle.serve_ports.specs.declared.tally.Tally.{Tally}

abbrev pub CONNECTIONS : Naming
CONNECTIONS = record {
  name = codes "presence_node_connections_total";
  help = codes "Connections that were taken.";
  kind = codes "counter";
  label = [];
}

abbrev pub DROPPED : Naming
DROPPED = record {
  name = codes "presence_node_connections_dropped_total";
  help = codes "Connections that were taken and dropped.";
  kind = codes "counter";
  label = codes "reason";
}

abbrev pub UNDER_WAY : Naming
UNDER_WAY = record {
  name = codes "presence_node_requests_under_way";
  help = codes "Connections whose request is waited for or being answered.";
  kind = codes "gauge";
  label = [];
}

abbrev pub GIVEN_UP : Naming
GIVEN_UP = record {
  name = codes "presence_node_requests_given_up_total";
  help = codes "Connections that ended before they were answered.";
  kind = codes "counter";
  label = codes "reason";
}

abbrev pub REQUESTS : Naming
REQUESTS = record {
  name = codes "presence_node_requests_total";
  help = codes "Requests at the port of clients, by their answer.";
  kind = codes "counter";
  label = codes "answer";
}

abbrev pub SOCKETS : Naming
SOCKETS = record {
  name = codes "presence_node_sockets_total";
  help = codes "WebSockets that were handed to the workers.";
  kind = codes "counter";
  label = [];
}

abbrev pub SESSIONS : Naming
SESSIONS = record {
  name = codes "presence_node_sessions";
  help = codes "Sessions that are open.";
  kind = codes "gauge";
  label = [];
}

abbrev pub BEGUN : Naming
BEGUN = record {
  name = codes "presence_node_sessions_begun_total";
  help = codes "Sessions that began.";
  kind = codes "counter";
  label = [];
}

abbrev pub ENDED : Naming
ENDED = record {
  name = codes "presence_node_sessions_ended_total";
  help = codes "Sessions that ended, by the code that the server closed them with, or by what ended them without one.";
  kind = codes "counter";
  label = codes "close";
}

abbrev pub PLACES : Naming
PLACES = record {
  name = codes "presence_node_places";
  help = codes "The same as presence_node_joined_topics, by the name that it had.";
  kind = codes "gauge";
  label = [];
}

abbrev pub CALLS : Naming
CALLS = record {
  name = codes "presence_node_calls_total";
  help = codes "Accepted calls of sessions, by kind; a session that ends leaves each topic.";
  kind = codes "counter";
  label = codes "call";
}

abbrev pub REFUSED : Naming
REFUSED = record {
  name = codes "presence_node_calls_refused_total";
  help = codes "Calls of sessions that were refused.";
  kind = codes "counter";
  label = [];
}

abbrev pub DELIVERIES : Naming
DELIVERIES = record {
  name = codes "presence_node_deliveries_total";
  help = codes "What sessions were delivered of their topics, by kind.";
  kind = codes "counter";
  label = codes "kind";
}

abbrev pub ENTRIES : Naming
ENTRIES = record {
  name = codes "presence_node_journal_entries";
  help = codes "Entries of the journal since its last checkpoint.";
  kind = codes "gauge";
  label = codes "shard";
}

abbrev pub BYTES : Naming
BYTES = record {
  name = codes "presence_node_journal_bytes";
  help = codes "Bytes that the journal's entries keep beside themselves, since its last checkpoint.";
  kind = codes "gauge";
  label = codes "shard";
}

abbrev pub OWN_ROWS : Naming
OWN_ROWS = record {
  name = codes "presence_node_own_rows";
  help = codes "Rows that are shown of sessions of this node.";
  kind = codes "gauge";
  label = codes "shard";
}

abbrev pub OTHER_ROWS : Naming
OTHER_ROWS = record {
  name = codes "presence_node_other_rows";
  help = codes "Rows that are shown of sessions of other nodes.";
  kind = codes "gauge";
  label = codes "shard";
}

abbrev pub TOPICS : Naming
TOPICS = record {
  name = codes "presence_node_topics";
  help = codes "Topics that a session of this node has joined.";
  kind = codes "gauge";
  label = codes "shard";
}

abbrev pub CHECKPOINTS : Naming
CHECKPOINTS = record {
  name = codes "presence_node_checkpoints_total";
  help = codes "Checkpoints, by why they were made.";
  kind = codes "counter";
  label = codes "reason";
}

abbrev pub LINKS : Naming
LINKS = record {
  name = codes "presence_node_links";
  help = codes "Links to other nodes that are up.";
  kind = codes "gauge";
  label = [];
}

abbrev pub CAME_UP : Naming
CAME_UP = record {
  name = codes "presence_node_links_up_total";
  help = codes "Links that came up.";
  kind = codes "counter";
  label = [];
}

abbrev pub WENT_DOWN : Naming
WENT_DOWN = record {
  name = codes "presence_node_links_down_total";
  help = codes "Links that went down.";
  kind = codes "counter";
  label = [];
}

abbrev pub BEATS : Naming
BEATS = record {
  name = codes "presence_node_link_beats_total";
  help = codes "Beats that went out over links.";
  kind = codes "counter";
  label = [];
}

abbrev pub WANTS : Naming
WANTS = record {
  name = codes "presence_node_link_wants_total";
  help = codes "Times that another node asked for what it lacks.";
  kind = codes "counter";
  label = [];
}

abbrev pub JOINED : Naming
JOINED = record {
  name = codes "presence_node_joined_topics";
  help = codes "Topics that sessions have joined, those of each session counted.";
  kind = codes "gauge";
  label = [];
}

abbrev pub CLIENTS : Naming
CLIENTS = record {
  name = codes "presence_node_clients";
  help = codes "Clients that have a place at a worker, or are promised one.";
  kind = codes "gauge";
  label = [];
}

abbrev pub CLIENTS_MAX : Naming
CLIENTS_MAX = record {
  name = codes "presence_node_clients_max";
  help = codes "Clients that the workers have places for.";
  kind = codes "gauge";
  label = [];
}

abbrev pub RECEIVED : Naming
RECEIVED = record {
  name = codes "presence_node_received_bytes_total";
  help = codes "Bytes that came over WebSockets, their handshakes among them.";
  kind = codes "counter";
  label = [];
}

abbrev pub MESSAGES : Naming
MESSAGES = record {
  name = codes "presence_node_messages_total";
  help = codes "Texts that came over WebSockets.";
  kind = codes "counter";
  label = [];
}

abbrev pub REFUSALS : Naming
REFUSALS = record {
  name = codes "presence_node_call_refusals_total";
  help = codes "Calls of sessions that were refused, by why.";
  kind = codes "counter";
  label = codes "reason";
}

abbrev pub LINKS_REFUSED : Naming
LINKS_REFUSED = record {
  name = codes "presence_node_links_refused_total";
  help = codes "Links that were refused for the address that they came from.";
  kind = codes "counter";
  label = [];
}

abbrev pub PEERS : Naming
PEERS = record {
  name = codes "presence_node_peers";
  help = codes "Other nodes that this one is told to dial.";
  kind = codes "gauge";
  label = [];
}

abbrev pub PEERS_UP : Naming
PEERS_UP = record {
  name = codes "presence_node_peers_up";
  help = codes "Those of them to which a link stands.";
  kind = codes "gauge";
  label = [];
}

abbrev pub REBIRTHS : Naming
REBIRTHS = record {
  name = codes "presence_node_rebirths_total";
  help = codes "Times that this node went on under its next incarnation.";
  kind = codes "counter";
  label = [];
}

abbrev pub BUILD : Naming
BUILD = record {
  name = codes "presence_node_build_info";
  help = codes "Always 1: which program it is.";
  kind = codes "gauge";
  label = codes "version";
}

abbrev pub STARTED : Naming
STARTED = record {
  name = codes "process_start_time_seconds";
  help = codes "When the server started, in seconds since 1970.";
  kind = codes "gauge";
  label = [];
}

abbrev pub MEMORY : Naming
MEMORY = record {
  name = codes "process_resident_memory_bytes";
  help = codes "Memory that the program has, or 0 where the system doesn't say.";
  kind = codes "gauge";
  label = [];
}

abbrev pub MEMORY_MAX : Naming
MEMORY_MAX = record {
  name = codes "presence_node_memory_max_bytes";
  help = codes "Memory that the program may have, beyond nine tenths of which it takes nothing more in.";
  kind = codes "gauge";
  label = [];
}

abbrev pub MEMORY_TIGHT : Naming
MEMORY_TIGHT = record {
  name = codes "presence_node_memory_is_tight";
  help = codes "1 while it takes nothing more in for want of memory, and else 0.";
  kind = codes "gauge";
  label = [];
}

abbrev pub FILES : Naming
FILES = record {
  name = codes "process_open_fds";
  help = codes "Files that the program has open, or 0 where the system doesn't say.";
  kind = codes "gauge";
  label = [];
}

abbrev pub FILES_MAX : Naming
FILES_MAX = record {
  name = codes "process_max_fds";
  help = codes "Files that it may have open, or 0 where the system doesn't say.";
  kind = codes "gauge";
  label = [];
}

-- Each of these is a text that had `text` already.

abbrev pub taken_behind : List ℕ → ServerTold → List ℕ
taken_behind text t =
    with_named (with_count text CONNECTIONS t.connections) DROPPED (
    (codes "handshakes", t.no_room) ∷ (codes "watch", t.unwatched) ∷ (codes "queue", t.queue_full) ∷ [])

abbrev pub waiting_behind : List ℕ → ServerTold → List ℕ
waiting_behind text t =
    with_named (with_count text UNDER_WAY t.under_way)
    GIVEN_UP (
    (codes "failed", t.failed) ∷ (codes "silent", t.silent) ∷ (codes "no_http", t.no_http) ∷ [])

unfoldable pub connections_behind : List ℕ → ServerTold → List ℕ
connections_behind text t = waiting_behind (taken_behind text t) t

unfoldable pub requests_behind : List ℕ → AnswersTold → List ℕ
requests_behind text a = with_named text REQUESTS (
    (codes "socket", a.sockets) ∷ (codes "page", a.pages) ∷ (codes "script", a.scripts) ∷ (codes "health", a.health)
    ∷ (codes "metrics", a.metrics) ∷ (codes "bad_request", a.bad_requests) ∷ (codes "forbidden", a.forbidden)
    ∷ (codes "not_found", a.not_found) ∷ (codes "not_allowed", a.not_allowed)
    ∷ (codes "options", a.options) ∷ (codes "no_host", a.no_host) ∷ (codes "long_head", a.long_head)
    ∷ (codes "long_body", a.long_body) ∷ (codes "elsewhere", a.elsewhere) ∷ (codes "unwell", a.unwell)
    ∷ (codes "full", a.full) ∷ (codes "crowded", a.crowded) ∷ (codes "hasty", a.hasty)
    ∷ (codes "unauthorized", a.unauthorized) ∷ [])

unfoldable pub ends_behind : List ℕ → EndsTold → List ℕ
ends_behind text e = with_named text ENDED (
    (codes "1000", e.normal) ∷ (codes "1001", e.away) ∷ (codes "1003", e.unsupported) ∷ (codes "1008", e.policy)
    ∷ (codes "1009", e.size) ∷ (codes "1011", e.error) ∷ (codes "3000", e.unauthorized) ∷ (codes "client", e.client)
    ∷ (codes "stream", e.stream) ∷ [])

unfoldable pub accepted_behind : List ℕ → Tally → List ℕ
accepted_behind text c = with_named text CALLS (
    (codes "join", c.joins) ∷ (codes "leave", c.leaves) ∷ (codes "track", c.tracks) ∷ (codes "update", c.updates)
    ∷ (codes "untrack", c.untracks) ∷ (codes "list", c.lists) ∷ (codes "get", c.gets) ∷ (codes "shout", c.shouts) ∷ [])

unfoldable pub refusals_behind : List ℕ → Tally → List ℕ
refusals_behind text c = with_named text REFUSALS (
    (codes "already_tracked", c.already_tracked) ∷ (codes "no_presence", c.no_presence) ∷ (codes "full", c.full)
    ∷ (codes "journal_full", c.journal_full) ∷ (codes "no_memory", c.no_memory) ∷ (codes "others", c.others) ∷ [])

unfoldable pub calls_behind : List ℕ → Tally → List ℕ
calls_behind text c = with_named (refusals_behind (with_count (accepted_behind text c) REFUSED c.refused) c)
    DELIVERIES ((codes "state", c.states) ∷ (codes "diff", c.diffs) ∷ (codes "shout", c.shouts_told) ∷ [])

abbrev pub open_behind : List ℕ → ServerTold → List ℕ
open_behind text t = with_count (with_count (with_count text SOCKETS t.handed_on) SESSIONS t.sessions) BEGUN t.begun

abbrev pub joined_behind : List ℕ → ServerTold → List ℕ
joined_behind text t = with_count (with_count text PLACES t.joined) JOINED t.joined

unfoldable pub sessions_behind : List ℕ → ServerTold → List ℕ
sessions_behind text t = calls_behind (joined_behind (ends_behind (open_behind text t) t.ends) t) t.calls

unfoldable pub seats_behind : List ℕ → ServerTold → List ℕ
seats_behind text t = with_count (with_count text CLIENTS t.clients) CLIENTS_MAX t.clients_max

unfoldable pub heard_behind : List ℕ → ServerTold → List ℕ
heard_behind text t = with_count (with_count text RECEIVED t.received_bytes) MESSAGES t.messages

unfoldable pub clients_behind : List ℕ → ServerTold → List ℕ
clients_behind text t =
    sessions_behind (heard_behind (seats_behind (requests_behind (connections_behind text t) t.answers) t) t) t

unfoldable pub checkpoints_behind : List ℕ → ServerTold → List ℕ
checkpoints_behind text t =
    with_named text CHECKPOINTS ((codes "due", t.due_checkpoints) ∷ (codes "full", t.full_checkpoints) ∷ [])

abbrev pub links_up_behind : List ℕ → LinksTold → List ℕ
links_up_behind text l = with_count (with_count (with_count text LINKS l.up) CAME_UP l.came_up) WENT_DOWN l.went_down

abbrev pub link_words_behind : List ℕ → LinksTold → List ℕ
link_words_behind text l = with_count (with_count (with_count text BEATS l.beats) WANTS l.wants) LINKS_REFUSED l.refused

abbrev pub peers_behind : List ℕ → LinksTold → List ℕ
peers_behind text l = with_count (with_count (with_count text PEERS l.peers) PEERS_UP l.peers_up) REBIRTHS l.rebirths

unfoldable pub links_behind : List ℕ → LinksTold → List ℕ
links_behind text l = peers_behind (link_words_behind (links_up_behind text l) l) l

unfoldable pub server_behind : List ℕ → ServerTold → List ℕ
server_behind text t = checkpoints_behind (clients_behind text t) t

abbrev pub entries_behind : List ℕ → ShardsTold → List ℕ
entries_behind text s = with_numbered text ENTRIES s.entries.items

abbrev pub bytes_behind : List ℕ → ShardsTold → List ℕ
bytes_behind text s = with_numbered text BYTES s.kept_bytes.items

abbrev pub own_rows_behind : List ℕ → ShardsTold → List ℕ
own_rows_behind text s = with_numbered text OWN_ROWS s.own_rows.items

abbrev pub other_rows_behind : List ℕ → ShardsTold → List ℕ
other_rows_behind text s = with_numbered text OTHER_ROWS s.other_rows.items

abbrev pub topics_behind : List ℕ → ShardsTold → List ℕ
topics_behind text s = with_numbered text TOPICS s.topics.items

abbrev pub rows_behind : List ℕ → ShardsTold → List ℕ
rows_behind text s = other_rows_behind (own_rows_behind text s) s

abbrev pub shown_behind : List ℕ → ShardsTold → List ℕ
shown_behind text s = topics_behind (rows_behind text s) s

abbrev pub journals_behind : List ℕ → ShardsTold → List ℕ
journals_behind text s = bytes_behind (entries_behind text s) s

unfoldable pub shards_behind : List ℕ → ShardsTold → List ℕ
shards_behind text s = shown_behind (journals_behind text s) s

unfoldable pub nodes_behind : List ℕ → ShardsTold → LinksTold → List ℕ
nodes_behind text s l = links_behind (shards_behind text s) l

-- yes is 1
abbrev pub told_flag : Bool → ℕ
told_flag b = if b then 1 else 0

unfoldable pub program_behind : List ℕ → ProcessTold → List ℕ
program_behind text p = with_count (with_named text BUILD ((p.version.now, 1) ∷ [])) STARTED p.started

unfoldable pub tight_behind : List ℕ → ProcessTold → List ℕ
tight_behind text p = with_count text MEMORY_TIGHT (told_flag p.is_tight)

unfoldable pub memory_behind : List ℕ → ProcessTold → List ℕ
memory_behind text p = tight_behind (with_count (with_count text MEMORY p.memory) MEMORY_MAX p.memory_max) p

unfoldable pub files_behind : List ℕ → ProcessTold → List ℕ
files_behind text p = with_count (with_count text FILES p.files) FILES_MAX p.files_max

unfoldable pub process_behind : List ℕ → ProcessTold → List ℕ
process_behind text p = files_behind (memory_behind (program_behind text p) p) p

-- all that is told
abbrev pub metrics_lines : ServerTold → ShardsTold → LinksTold → ProcessTold → List ℕ
metrics_lines t s l p = process_behind (nodes_behind (server_behind [] t) s l) p
