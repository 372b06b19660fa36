use denote.Param.Send.{IsSend, IsSync, sendable}
use Rattle.std.proofs.Crossing as heap
use Rattle.std.proofs.MapsCrossing as maps
use Rattle.presence_base.specs.contracts.json_text.JsonText as JsonText
use Rattle.presence_base.specs.contracts.meta.Meta as Meta
use Rattle.presence_base.specs.contracts.row.Row as Row
use Rattle.presence_base.specs.contracts.names.Topic as Topic
use Rattle.presence_base.specs.contracts.names.Key as Key
use Rattle.presence_base.specs.contracts.dots.Replica as Replica
use Rattle.presence_base.specs.contracts.dots.Dot as Dot
use Rattle.presence_journal.specs.contracts.limits.Payload as Payload
use Rattle.presence_journal.specs.contracts.rows.Rows as Rows
use Rattle.presence_journal.specs.contracts.rows.RowDiff as RowDiff
use Rattle.presence_journal.specs.contracts.rows.Item as Item
use Rattle.presence_journal.specs.contracts.shared.SharedDiff as SharedDiff
use Rattle.presence_journal.specs.contracts.shared.SharedShout as SharedShout
use Rattle.presence_journal.specs.contracts.shared_rows.SharedRows as SharedRows
use Rattle.tracker_feeds.specs.contracts.followers.Follower as Follower
use Rattle.tracker_feeds.specs.contracts.rings.Ring as Ring
use Rattle.tracker_feeds.specs.contracts.feeds.Feeds as Feeds

json_text_send : IsSend (JsonText.the_field).row
json_text_send = search (heap.crosses, sendable) depth 60 fits 20000

json_text_sync : IsSync (JsonText.the_field).row
json_text_sync = search (heap.crosses, sendable) depth 60 fits 20000

meta_send : IsSend (Meta.the_field).row
meta_send = search (json_text_send, json_text_sync, heap.crosses, sendable) depth 60 fits 20000

topic_send : IsSend (Topic.the_field).row
topic_send = search (heap.crosses, sendable) depth 60 fits 20000

key_send : IsSend (Key.the_field).row
key_send = search (heap.crosses, sendable) depth 60 fits 20000

dot_send : IsSend (Dot.the_field).row
dot_send = search sendable depth 60 fits 20000

replica_send : IsSend (Replica.the_field).row
replica_send = search sendable depth 60 fits 20000

row_send : IsSend (Row.the_field).row
row_send = search (meta_send, topic_send, key_send, dot_send, sendable) depth 60 fits 20000

meta_sync : IsSync (Meta.the_field).row
meta_sync = search (json_text_send, json_text_sync, heap.crosses, sendable) depth 60 fits 20000

topic_sync : IsSync (Topic.the_field).row
topic_sync = search (heap.crosses, sendable) depth 60 fits 20000

key_sync : IsSync (Key.the_field).row
key_sync = search (heap.crosses, sendable) depth 60 fits 20000

dot_sync : IsSync (Dot.the_field).row
dot_sync = search sendable depth 60 fits 20000

replica_sync : IsSync (Replica.the_field).row
replica_sync = search sendable depth 60 fits 20000

row_sync : IsSync (Row.the_field).row
row_sync = search (meta_sync, topic_sync, key_sync, dot_sync, sendable) depth 60 fits 20000

payload_send : IsSend (Payload.the_field).row
payload_send = search (json_text_send, sendable) depth 60 fits 20000

rows_send : IsSend (Rows.the_field).row
rows_send = search (row_send, dot_send, heap.crosses, sendable) depth 60 fits 20000

diff_send : IsSend (RowDiff.the_field).row
diff_send = search (rows_send, sendable) depth 60 fits 20000

payload_sync : IsSync (Payload.the_field).row
payload_sync = search (json_text_sync, sendable) depth 60 fits 20000

rows_sync : IsSync (Rows.the_field).row
rows_sync = search (row_sync, dot_sync, heap.crosses, sendable) depth 60 fits 20000

diff_sync : IsSync (RowDiff.the_field).row
diff_sync = search (rows_sync, sendable) depth 60 fits 20000

shared_diff_send : IsSend (SharedDiff.the_field).row
shared_diff_send = search (diff_send, diff_sync, heap.crosses, sendable) depth 60 fits 20000

shared_diff_sync : IsSync (SharedDiff.the_field).row
shared_diff_sync = search (diff_send, diff_sync, heap.crosses, sendable) depth 60 fits 20000

shared_shout_send : IsSend (SharedShout.the_field).row
shared_shout_send = search (payload_send, payload_sync, heap.crosses, sendable) depth 60 fits 20000

shared_shout_sync : IsSync (SharedShout.the_field).row
shared_shout_sync = search (payload_send, payload_sync, heap.crosses, sendable) depth 60 fits 20000

shared_rows_send : IsSend (SharedRows.the_field).row
shared_rows_send = search (row_send, row_sync, dot_send, dot_sync, heap.crosses, sendable) depth 60 fits 20000

shared_rows_sync : IsSync (SharedRows.the_field).row
shared_rows_sync = search (row_send, row_sync, dot_send, dot_sync, heap.crosses, sendable) depth 60 fits 20000

item_send : IsSend (Item.the_field).row
item_send = search (shared_rows_send, shared_diff_send, shared_shout_send, sendable) depth 60 fits 20000

item_sync : IsSync (Item.the_field).row
item_sync = search (shared_rows_sync, shared_diff_sync, shared_shout_sync, sendable) depth 60 fits 20000

follower_send : IsSend (Follower.the_field).row
follower_send = search (topic_send, sendable) depth 60 fits 20000

ring_send : IsSend (Ring.the_field).row
ring_send = search (item_send, item_sync, maps.crosses, heap.crosses, sendable) depth 60 fits 20000

pub feeds_send : IsSend (Feeds.the_field).row
feeds_send = search (topic_send, ring_send, follower_send, maps.crosses, heap.crosses, sendable) depth 60 fits 20000
