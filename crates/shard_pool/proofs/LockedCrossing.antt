-- Receipts, what a seat keeps at one shard, and a shard behind its lock may go to another thread. One search for each gives
-- up, so it goes by the parts.
use denote.RattleType.{RattleType}
use denote.Param.Send.{IsSend, sendable}
use Rattle.std.specs.declared.sync.ledger.Ledger as Ledger
use Rattle.std.proofs.sync.ledger.Book.TheSendSync as book
use Rattle.std.proofs.sync.ledger.Share.TheSendSync as share
use Rattle.std.proofs.Crossing as heap
use Rattle.tracker_shard.proofs.Crossing.{step_send, outcome_send, shard_field}
use Rattle.shard_pool_settled.specs.contracts.receipt.Receipt as Receipt
use Rattle.shard_pool.specs.declared.lane.Lane as Lane
use Rattle.shard_pool.specs.contracts.locked.Locked as Locked
use Rattle.shard_pool.specs.contracts.part.Part as Part

-- ---- a receipt

pub receipt_field : IsSend (Receipt.the_field).row
receipt_field = search (step_send, outcome_send, sendable) depth 60 fits 20000

pub receipt_send : IsSend Receipt.the_row
receipt_send = search (receipt_field, sendable) depth 60 fits 20000

-- ---- a seat at one shard, and what stands behind its lock

module _ (L : RattleType) (lane : Lane.Ghosts L.Denot) (ledger : Ledger.Ghosts L.Denot) where
  pub part_send : IsSend (Part.the_field L lane ledger).row
  part_send = search (receipt_send, receipt_field, share.the_send, heap.crosses, sendable) depth 60 fits 20000

  pub locked_send : IsSend (Locked.the_field L lane ledger).row
  locked_send = search (shard_field, book.the_send, heap.crosses, sendable) depth 60 fits 20000
