-- Seats and pools may go to another thread. One search for each gives up, so it goes by the parts.
use denote.RattleType.{RattleType}
use denote.Param.Send.{IsSend, IsSync, sendable}
use Rattle.std.specs.declared.sync.ledger.Ledger as Ledger
use Rattle.std.proofs.Crossing as heap
use Rattle.shard_pool.specs.declared.lane.Lane as Lane
use Rattle.shard_pool.proofs.LockedCrossing.{part_send, locked_send}
use Rattle.shard_pool.specs.declared.lanes.Lanes as Lanes
use Rattle.shard_pool.specs.contracts.pool.Pool as Pool
use Rattle.shard_pool.specs.contracts.seat.Seat as Seat
pub use Rattle.shard_pool.proofs.LockedCrossing.{receipt_send}

module _ (L A B C D : RattleType) (lanes : Lanes.Ghosts L.Denot A.Denot B.Denot C.Denot D.Denot) (lane-a : Lane.Ghosts A.Denot) (lane-b : Lane.Ghosts B.Denot) (lane-c : Lane.Ghosts C.Denot) (lane-d : Lane.Ghosts D.Denot) (a : Ledger.Ghosts A.Denot) (b : Ledger.Ghosts B.Denot) (c : Ledger.Ghosts C.Denot) (d : Ledger.Ghosts D.Denot) where
  pub seat_send : IsSend (Seat.the_field L A B C D lanes lane-a a lane-b b lane-c c lane-d d).row
  seat_send = search (part_send, sendable) depth 60 fits 20000

  pub seat_row_send : IsSend (Seat.the_row L A B C D lanes lane-a a lane-b b lane-c c lane-d d)
  seat_row_send = search (seat_send, sendable) depth 60 fits 20000

  pub pool_sync : (G : RattleType) → IsSync G → IsSync (Pool.the_field G L A B C D lanes lane-a lane-b lane-c lane-d a b c d).row
  pool_sync G s = search (locked_send, heap.crosses, sendable) depth 60 fits 20000

  pub pool_row_sync : (G : RattleType) → IsSync G → IsSync (Pool.the_row G L A B C D lanes lane-a lane-b lane-c lane-d a b c d)
  pool_row_sync G s = search (pool_sync, sendable) depth 60 fits 20000

-- For a function that lends a pool to threads, or gives them seats: `search crosses depth 30`, once the bounds
-- `Sync` of the gate and of the handle stand before it as facts of their own.
pub ruleset crosses = (seat_send, seat_row_send, pool_sync, pool_row_sync, sendable)
