-- A worker may go to another thread, where its connections' streams may.
use denote.RattleType.{RattleType}
use denote.Param.Send.{IsSend, sendable}
use Rattle.std.proofs.Crossing as heap
use Rattle.std.proofs.MapsCrossing as maps
use Rattle.std.specs.declared.io.traits.Read.{Ghosts as ReadGhosts}
use Rattle.std.specs.declared.io.traits.Write.{Ghosts as WriteGhosts}
use Rattle.node_threads.proofs.Crossing.{taker_send}
use Rattle.serve_connections.proofs.ConnectionCrossing.{connection_send}
use Rattle.serve_connections.specs.contracts.client.Client as Client
use Rattle.serve_connections.specs.contracts.worker.Worker as Worker

module _ (S : RattleType) where
  client_send : IsSend S → IsSend (Client.the_field S).row
  client_send s = search (connection_send, heap.crosses, sendable) depth 60 fits 20000

  client_row_send : IsSend S → IsSend (Client.the_row S)
  client_row_send s = search (client_send, sendable) depth 60 fits 20000

module _ (S : RattleType) (reads : ReadGhosts S.Denot) (writes : WriteGhosts S.Denot) where
  pub worker_send : IsSend S → IsSend (Worker.the_field S reads writes).row
  worker_send s = search (client_row_send, taker_send, maps.crosses, heap.crosses, sendable) depth 60 fits 20000
