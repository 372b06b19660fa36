-- What is yet to be told may go to another thread.
use denote.Param.Send.{IsSend, IsSync, sendable}
use Rattle.std.proofs.Crossing as heap
use Rattle.presence_base.specs.contracts.json_text.JsonText as JsonText
use Rattle.presence_base.specs.contracts.meta.Meta as Meta
use Rattle.presence_base.specs.contracts.row.Row as Row
use Rattle.presence_base.specs.contracts.names.Topic as Topic
use Rattle.presence_base.specs.contracts.names.Key as Key
use Rattle.presence_base.specs.contracts.dots.Dot as Dot
use Rattle.presence_journal.specs.contracts.shared_rows.SharedRows as SharedRows
use Rattle.channel_pieces.specs.contracts.telling.UntoldState as UntoldState
use Rattle.channel_pieces.specs.contracts.telling.Telling as Telling

json_text_send : IsSend (JsonText.the_field).row
json_text_send = search (heap.crosses, sendable) depth 60 fits 20000

json_text_sync : IsSync (JsonText.the_field).row
json_text_sync = search (heap.crosses, sendable) depth 60 fits 20000

meta_send : IsSend (Meta.the_field).row
meta_send = search (json_text_send, json_text_sync, heap.crosses, sendable) depth 60 fits 20000

meta_sync : IsSync (Meta.the_field).row
meta_sync = search (json_text_send, json_text_sync, heap.crosses, sendable) depth 60 fits 20000

topic_send : IsSend (Topic.the_field).row
topic_send = search (heap.crosses, sendable) depth 60 fits 20000

topic_sync : IsSync (Topic.the_field).row
topic_sync = search (heap.crosses, sendable) depth 60 fits 20000

key_send : IsSend (Key.the_field).row
key_send = search (heap.crosses, sendable) depth 60 fits 20000

key_sync : IsSync (Key.the_field).row
key_sync = search (heap.crosses, sendable) depth 60 fits 20000

dot_send : IsSend (Dot.the_field).row
dot_send = search sendable depth 60 fits 20000

dot_sync : IsSync (Dot.the_field).row
dot_sync = search sendable depth 60 fits 20000

row_send : IsSend (Row.the_field).row
row_send = search (meta_send, topic_send, key_send, dot_send, sendable) depth 60 fits 20000

row_sync : IsSync (Row.the_field).row
row_sync = search (meta_sync, topic_sync, key_sync, dot_sync, sendable) depth 60 fits 20000

shared_rows_send : IsSend (SharedRows.the_field).row
shared_rows_send = search (row_send, row_sync, dot_send, dot_sync, heap.crosses, sendable) depth 60 fits 20000

untold_send : IsSend (UntoldState.the_field).row
untold_send = search (topic_send, shared_rows_send, sendable) depth 60 fits 20000

pub telling_send : IsSend (Telling.the_field).row
telling_send = search (untold_send, sendable) depth 60 fits 20000
