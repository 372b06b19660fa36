-- A shard may go to another thread.
use denote.Param.Send.{IsSend, sendable}
use Rattle.tracker_index.proofs.Crossing.{indexed_send}
use Rattle.tracker_shard.specs.contracts.shard.Shard as Shard
pub use Rattle.tracker_index.proofs.Crossing.{step_send, outcome_send}

pub shard_field : IsSend (Shard.the_field).row
shard_field = search (indexed_send, sendable) depth 60 fits 20000
