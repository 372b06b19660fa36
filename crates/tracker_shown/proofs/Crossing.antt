use denote.Param.Send.{IsSend, IsSync, sendable}
use Rattle.std.proofs.Crossing as heap
use Rattle.std.proofs.MapsCrossing as maps
use Rattle.presence_base.specs.contracts.json_text.JsonText as JsonText
use Rattle.presence_base.specs.contracts.meta.Meta as Meta
use Rattle.presence_base.specs.contracts.row.Row as Row
use Rattle.presence_base.specs.contracts.names.Topic as Topic
use Rattle.presence_base.specs.contracts.names.Key as Key
use Rattle.presence_base.specs.contracts.dots.Replica as Replica
use Rattle.presence_base.specs.contracts.dots.Dot as Dot
use Rattle.tracker_shown.specs.contracts.stand.Stand as Stand
use Rattle.presence_journal.specs.contracts.entry.HeldDots as HeldDots
use Rattle.presence_journal.specs.contracts.entry.Dots as Dots
use Rattle.presence_journal.specs.contracts.shared_rows.ListedRows as ListedRows
use Rattle.presence_journal.specs.contracts.shared_rows.WrittenRows as WrittenRows
use Rattle.presence_journal.specs.contracts.shared_rows.HeldRows as HeldRows
use Rattle.presence_journal.specs.contracts.shared_rows.SharedRows as SharedRows
use Rattle.tracker_shown.specs.contracts.table.Table as Table
use Rattle.tracker_shown.specs.contracts.states.States as States
use Rattle.tracker_shown.specs.contracts.shown.Shown as Shown

json_text_send : IsSend (JsonText.the_field).row
json_text_send = search (heap.crosses, sendable) depth 60 fits 20000

json_text_sync : IsSync (JsonText.the_field).row
json_text_sync = search (heap.crosses, sendable) depth 60 fits 20000

meta_send : IsSend (Meta.the_field).row
meta_send = search (json_text_send, json_text_sync, heap.crosses, sendable) depth 60 fits 20000

topic_send : IsSend (Topic.the_field).row
topic_send = search (heap.crosses, sendable) depth 60 fits 20000

key_send : IsSend (Key.the_field).row
key_send = search (heap.crosses, sendable) depth 60 fits 20000

dot_send : IsSend (Dot.the_field).row
dot_send = search sendable depth 60 fits 20000

replica_send : IsSend (Replica.the_field).row
replica_send = search sendable depth 60 fits 20000

row_send : IsSend (Row.the_field).row
row_send = search (meta_send, topic_send, key_send, dot_send, sendable) depth 60 fits 20000

stand_send : IsSend (Stand.the_field).row
stand_send = search (topic_send, key_send, dot_send, sendable) depth 60 fits 20000

meta_sync : IsSync (Meta.the_field).row
meta_sync = search (json_text_send, json_text_sync, heap.crosses, sendable) depth 60 fits 20000

topic_sync : IsSync (Topic.the_field).row
topic_sync = search (heap.crosses, sendable) depth 60 fits 20000

key_sync : IsSync (Key.the_field).row
key_sync = search (heap.crosses, sendable) depth 60 fits 20000

dot_sync : IsSync (Dot.the_field).row
dot_sync = search sendable depth 60 fits 20000

row_sync : IsSync (Row.the_field).row
row_sync = search (meta_sync, topic_sync, key_sync, dot_sync, sendable) depth 60 fits 20000

held_dots_send : IsSend (HeldDots.the_field).row
held_dots_send = search (dot_send, dot_sync, heap.crosses, sendable) depth 60 fits 20000

held_dots_sync : IsSync (HeldDots.the_field).row
held_dots_sync = search (dot_send, dot_sync, heap.crosses, sendable) depth 60 fits 20000

dots_send : IsSend (Dots.the_field).row
dots_send = search (held_dots_send, sendable) depth 60 fits 20000

dots_sync : IsSync (Dots.the_field).row
dots_sync = search (held_dots_sync, sendable) depth 60 fits 20000

listed_send : IsSend (ListedRows.the_field).row
listed_send = search (row_send, dot_send, dots_send, heap.crosses, sendable) depth 60 fits 20000

listed_sync : IsSync (ListedRows.the_field).row
listed_sync = search (row_sync, dot_sync, dots_sync, heap.crosses, sendable) depth 60 fits 20000

written_send : IsSend (WrittenRows.the_field).row
written_send = search (listed_send, listed_sync, heap.crosses, sendable) depth 60 fits 20000

written_sync : IsSync (WrittenRows.the_field).row
written_sync = search (listed_send, listed_sync, heap.crosses, sendable) depth 60 fits 20000

held_rows_send : IsSend (HeldRows.the_field).row
held_rows_send = search (written_send, written_sync, listed_send, listed_sync, heap.crosses, sendable) depth 60 fits 20000

shared_rows_send : IsSend (SharedRows.the_field).row
shared_rows_send = search (held_rows_send, sendable) depth 60 fits 20000

table_send : IsSend (Table.the_field).row
table_send = search (stand_send, row_send, replica_send, maps.crosses, heap.crosses, sendable) depth 60 fits 20000

states_send : IsSend (States.the_field).row
states_send = search (topic_send, shared_rows_send, maps.crosses, heap.crosses, sendable) depth 60 fits 20000

pub shown_send : IsSend (Shown.the_field).row
shown_send = search (table_send, states_send, sendable) depth 60 fits 20000
