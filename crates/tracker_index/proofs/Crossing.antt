-- What a shard keeps may go to another thread. One search gives up, so it goes by the parts.
use denote.Param.Send.{IsSend, IsSync, sendable}
use Rattle.std.proofs.Crossing as heap
use Rattle.std.proofs.MapsCrossing as maps
use Rattle.presence_base.specs.contracts.json_text.JsonText as JsonText
use Rattle.presence_base.specs.contracts.meta.Meta as Meta
use Rattle.presence_base.specs.contracts.row.Row as Row
use Rattle.presence_base.specs.contracts.names.Topic as Topic
use Rattle.presence_base.specs.contracts.names.Key as Key
use Rattle.presence_base.specs.contracts.dots.Replica as Replica
use Rattle.presence_base.specs.contracts.dots.Dot as Dot
use Rattle.dot_context.specs.contracts.runs.Runs as Runs
use Rattle.dot_context.specs.contracts.context.Context as Context
use Rattle.orswot_core.specs.contracts.set.Orswot as Orswot
use Rattle.delta_range.specs.contracts.delta.Delta as Delta
use Rattle.delta_range.specs.contracts.generations.Generations as Generations
use Rattle.tracker_known.specs.contracts.known.Known as Known
use Rattle.presence_journal_cuts.specs.contracts.untold.Untold as Untold
use Rattle.orswot_core.specs.contracts.told.Told as Told
use Rattle.presence_journal.specs.contracts.limits.Payload as Payload
use Rattle.presence_journal.specs.contracts.step.Step as Step
use Rattle.presence_journal.specs.contracts.shared_values.SharedDot as SharedDot
use Rattle.presence_journal.specs.contracts.shared_values.SharedReplica as SharedReplica
use Rattle.presence_journal.specs.contracts.shared_values.SharedTold as SharedTold
use Rattle.presence_journal.specs.contracts.listed_dots.HeldPiece as HeldPiece
use Rattle.presence_journal.specs.contracts.listed_dots.Piece as Piece
use Rattle.presence_journal.specs.contracts.listed_dots.Pieced as Pieced
use Rattle.presence_journal.specs.contracts.listed_dots.HeldList as HeldList
use Rattle.presence_journal.specs.contracts.listed_dots.ListedDots as ListedDots
use Rattle.presence_journal.specs.contracts.entry.Dots as Dots
use Rattle.presence_journal.specs.contracts.entry.Pairs as Pairs
use Rattle.presence_journal.specs.contracts.entry.Outcome as Outcome
use Rattle.presence_journal.specs.contracts.entry.Entry as Entry
use Rattle.presence_journal.specs.contracts.entry.Start as Start
use Rattle.presence_journal_lists.specs.contracts.kept.Chains as Chains
use Rattle.presence_journal_lists.specs.contracts.kept.Subscribers as Subscribers
use Rattle.presence_journal.specs.contracts.entries.Entries as Entries
use Rattle.presence_journal.specs.contracts.journal.Journal as Journal
use Rattle.tracker_known.proofs.Crossing.{replica_send, standings_send, others_send}
use Rattle.presence_journal_cuts.proofs.Crossing.{chain_send}
use Rattle.tracker_shown.proofs.Crossing.{shown_send}
use Rattle.tracker_feeds.proofs.Crossing.{feeds_send}
use Rattle.tracker_index.specs.contracts.parts.Parts as Parts
use Rattle.tracker_index.specs.contracts.indexed.Indexed as Indexed

json_text_send : IsSend (JsonText.the_field).row
json_text_send = search (heap.crosses, sendable) depth 60 fits 20000

json_text_sync : IsSync (JsonText.the_field).row
json_text_sync = search (heap.crosses, sendable) depth 60 fits 20000

meta_send : IsSend (Meta.the_field).row
meta_send = search (json_text_send, json_text_sync, heap.crosses, sendable) depth 60 fits 20000

pub topic_send : IsSend (Topic.the_field).row
topic_send = search (heap.crosses, sendable) depth 60 fits 20000

key_send : IsSend (Key.the_field).row
key_send = search (heap.crosses, sendable) depth 60 fits 20000

dot_send : IsSend (Dot.the_field).row
dot_send = search sendable depth 60 fits 20000

row_send : IsSend (Row.the_field).row
row_send = search (meta_send, topic_send, key_send, dot_send, sendable) depth 60 fits 20000

runs_send : IsSend (Runs.the_field).row
runs_send = search (maps.crosses, heap.crosses, sendable) depth 60 fits 20000

context_send : IsSend (Context.the_field).row
context_send = search (runs_send, replica_send, maps.crosses, heap.crosses, sendable) depth 60 fits 20000

set_send : IsSend (Orswot.the_field).row
set_send = search (context_send, dot_send, row_send, maps.crosses, heap.crosses, sendable) depth 60 fits 20000

known_send : IsSend (Known.the_field).row
known_send = search (set_send, others_send, sendable) depth 60 fits 20000

delta_send : IsSend (Delta.the_field).row
delta_send = search (replica_send, dot_send, row_send, heap.crosses, sendable) depth 60 fits 20000

generations_send : IsSend (Generations.the_field).row
generations_send = search (replica_send, delta_send, heap.crosses, sendable) depth 60 fits 20000

untold_send : IsSend (Untold.the_field).row
untold_send = search (replica_send, chain_send, dot_send, row_send, generations_send, maps.crosses, heap.crosses, sendable) depth 60 fits 20000

told_send : IsSend (Told.the_field).row
told_send = search (row_send, dot_send, replica_send, maps.crosses, heap.crosses, sendable) depth 60 fits 20000

payload_send : IsSend (Payload.the_field).row
payload_send = search (json_text_send, sendable) depth 60 fits 20000

meta_sync : IsSync (Meta.the_field).row
meta_sync = search (json_text_send, json_text_sync, heap.crosses, sendable) depth 60 fits 20000

topic_sync : IsSync (Topic.the_field).row
topic_sync = search (heap.crosses, sendable) depth 60 fits 20000

key_sync : IsSync (Key.the_field).row
key_sync = search (heap.crosses, sendable) depth 60 fits 20000

dot_sync : IsSync (Dot.the_field).row
dot_sync = search sendable depth 60 fits 20000

replica_sync : IsSync (Replica.the_field).row
replica_sync = search sendable depth 60 fits 20000

row_sync : IsSync (Row.the_field).row
row_sync = search (meta_sync, topic_sync, key_sync, dot_sync, sendable) depth 60 fits 20000

told_sync : IsSync (Told.the_field).row
told_sync = search (row_sync, dot_sync, replica_sync, heap.crosses, sendable) depth 60 fits 20000

shared_dot_send : IsSend (SharedDot.the_field).row
shared_dot_send = search (dot_send, dot_sync, heap.crosses, sendable) depth 60 fits 20000

shared_replica_send : IsSend (SharedReplica.the_field).row
shared_replica_send = search (replica_send, replica_sync, heap.crosses, sendable) depth 60 fits 20000

shared_told_send : IsSend (SharedTold.the_field).row
shared_told_send = search (told_send, told_sync, heap.crosses, sendable) depth 60 fits 20000

pub step_send : IsSend (Step.the_field).row
step_send = search (meta_send, topic_send, key_send, shared_replica_send, payload_send, shared_told_send, sendable) depth 60 fits 20000

held_piece_send : IsSend (HeldPiece.the_field).row
held_piece_send = search (dot_send, heap.crosses, sendable) depth 60 fits 20000

held_piece_sync : IsSync (HeldPiece.the_field).row
held_piece_sync = search (dot_sync, heap.crosses, sendable) depth 60 fits 20000

piece_send : IsSend (Piece.the_field).row
piece_send = search (held_piece_send, held_piece_sync, heap.crosses, sendable) depth 60 fits 20000

piece_sync : IsSync (Piece.the_field).row
piece_sync = search (held_piece_send, held_piece_sync, heap.crosses, sendable) depth 60 fits 20000

pieced_send : IsSend (Pieced.the_field).row
pieced_send = search (piece_send, heap.crosses, sendable) depth 60 fits 20000

pieced_sync : IsSync (Pieced.the_field).row
pieced_sync = search (piece_sync, heap.crosses, sendable) depth 60 fits 20000

held_list_send : IsSend (HeldList.the_field).row
held_list_send = search (pieced_send, pieced_sync, dot_send, dot_sync, heap.crosses, sendable) depth 60 fits 20000

listed_dots_send : IsSend (ListedDots.the_field).row
listed_dots_send = search (held_list_send, sendable) depth 60 fits 20000

pub dots_send : IsSend (Dots.the_field).row
dots_send = search (dot_send, dot_sync, heap.crosses, sendable) depth 60 fits 20000

pairs_send : IsSend (Pairs.the_field).row
pairs_send = search (dot_send, dot_sync, heap.crosses, sendable) depth 60 fits 20000

pub outcome_send : IsSend (Outcome.the_field).row
outcome_send = search (shared_dot_send, dots_send, listed_dots_send, pairs_send, sendable) depth 60 fits 20000

chains_send : IsSend (Chains.the_field).row
chains_send = search (heap.crosses, sendable) depth 60 fits 20000

subscribers_send : IsSend (Subscribers.the_field).row
subscribers_send = search (topic_send, heap.crosses, sendable) depth 60 fits 20000

start_send : IsSend (Start.the_field).row
start_send = search (replica_send, told_send, standings_send, chains_send, generations_send, subscribers_send, heap.crosses, sendable) depth 60 fits 20000

entry_send : IsSend (Entry.the_field).row
entry_send = search (step_send, outcome_send, sendable) depth 60 fits 20000

entry_row_send : IsSend Entry.the_row
entry_row_send = search (entry_send, sendable) depth 60 fits 20000

entries_send : IsSend (Entries.the_field).row
entries_send = search (entry_row_send, heap.crosses, sendable) depth 60 fits 20000

journal_send : IsSend (Journal.the_field).row
journal_send = search (start_send, entries_send, sendable) depth 60 fits 20000

parts_send : IsSend (Parts.the_field).row
parts_send = search (known_send, shown_send, feeds_send, untold_send, sendable) depth 60 fits 20000

pub indexed_send : IsSend (Indexed.the_field).row
indexed_send = search (journal_send, parts_send, sendable) depth 60 fits 20000
