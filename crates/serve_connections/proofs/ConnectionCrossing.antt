-- A connection may go to another thread, where its stream may.
use denote.RattleType.{RattleType}
use denote.Param.Send.{IsSend, sendable}
use Rattle.std.proofs.Crossing as heap
use Rattle.std.proofs.MapsCrossing as maps
use Rattle.channel_session.proofs.Crossing.{session_send}
use Rattle.channel_pieces.proofs.Crossing.{telling_send}
use Rattle.tokens.proofs.Crossing.{grant_send}
use Rattle.serve_connections.specs.contracts.connection.Connection as Connection

module _ (S K : RattleType) where
  pub connection_send : IsSend S → IsSend K → IsSend (Connection.the_field S K).row
  connection_send s k = search (session_send, telling_send, grant_send, maps.crosses, heap.crosses, sendable) depth 60 fits 20000
