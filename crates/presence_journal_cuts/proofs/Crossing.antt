-- A chain of own rows may go to another thread.
use denote.Param.Send.{IsSend, sendable}
use Rattle.std.proofs.Crossing as heap
use Rattle.presence_journal_cuts.specs.contracts.chain.Chain as Chain

pub chain_send : IsSend (Chain.the_field).row
chain_send = search (heap.crosses, sendable) depth 60 fits 20000
