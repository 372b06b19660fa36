-- Keys may go to another thread, and be seen by it.
use denote.Param.Send.{IsSend, IsSync, sendable}
use Rattle.std.proofs.Crossing as heap
use Rattle.hmac_keys.specs.contracts.keys.Keys as Keys

pub key_send : IsSend (Keys.the_field).row
key_send = search (heap.crosses, sendable) depth 60 fits 20000

pub key_sync : IsSync (Keys.the_field).row
key_sync = search (heap.crosses, sendable) depth 60 fits 20000
