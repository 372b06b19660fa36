-- A client's stream may go to another thread, where the one inside may.
use denote.RattleType.{RattleType}
use denote.Param.Send.{IsSend, sendable}
use Rattle.std.proofs.Crossing as heap
use Rattle.serve_sockets.specs.contracts.stream.ClientStream as ClientStream

module _ (S : RattleType) where
  pub client_stream_send : IsSend S → IsSend (ClientStream.the_field S).row
  client_stream_send s = search (heap.crosses, sendable) depth 60 fits 20000

  pub client_stream_row_send : IsSend S → IsSend (ClientStream.the_row S)
  client_stream_row_send s = search (client_stream_send, sendable) depth 60 fits 20000
