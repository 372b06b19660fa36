-- A session may go to another thread.
use denote.Param.Send.{IsSend, sendable}
use Rattle.std.proofs.Crossing as heap
use Rattle.std.proofs.MapsCrossing as maps
use Rattle.presence_base.specs.contracts.names.Topic as Topic
use Rattle.channel_session.specs.contracts.session.Session as Session

topic_send : IsSend (Topic.the_field).row
topic_send = search (heap.crosses, sendable) depth 60 fits 20000

pub session_send : IsSend (Session.the_field).row
session_send = search (topic_send, maps.crosses, heap.crosses, sendable) depth 60 fits 20000
