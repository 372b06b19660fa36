-- What is kept of other replicas may go to another thread.
use denote.Param.Send.{IsSend, sendable}
use Rattle.std.proofs.Crossing as heap
use Rattle.std.proofs.MapsCrossing as maps
use Rattle.presence_base.specs.contracts.names.NodeName as NodeName
use Rattle.presence_base.specs.contracts.dots.Replica as Replica
use Rattle.presence_journal_lists.specs.contracts.lives.Lives as Lives
use Rattle.presence_journal_lists.specs.contracts.standings.Standings as Standings
use Rattle.tracker_known.specs.contracts.others.Others as Others

name_send : IsSend (NodeName.the_field).row
name_send = search sendable depth 60 fits 20000

pub replica_send : IsSend (Replica.the_field).row
replica_send = search sendable depth 60 fits 20000

lives_send : IsSend (Lives.the_field).row
lives_send = search (heap.crosses, sendable) depth 60 fits 20000

pub standings_send : IsSend (Standings.the_field).row
standings_send = search (name_send, replica_send, lives_send, maps.crosses, heap.crosses, sendable) depth 60 fits 20000

pub others_send : IsSend (Others.the_field).row
others_send = search (replica_send, standings_send, sendable) depth 60 fits 20000
