-- A worker's end of the queue may go to another thread, with what may.
use denote.RattleType.{RattleType}
use denote.Param.Send.{IsSend, sendable}
use Rattle.std.proofs.Crossing as heap
use Rattle.std.proofs.MapsCrossing as maps
use Rattle.atomic_table.proofs.shared.Shared.TheSendSync as shared
use Rattle.atomic_table.proofs.shared.Seat.TheSendSync as chair
use Rattle.atomic_table.proofs.send_lease.SendLease.TheSendSync as lease
use Rattle.node_threads.specs.contracts.ends.Taker as Taker

module _ (T : RattleType) where
  pub taker_send : IsSend T → IsSend (Taker.the_field T).row
  taker_send s = search (shared.the_send, shared.the_sync, chair.the_send, lease.the_send, lease.the_sync, maps.crosses, heap.crosses, sendable) depth 60 fits 20000
