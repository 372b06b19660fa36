-- A grant may go to another thread.
use denote.Param.Send.{IsSend, sendable}
use Rattle.std.proofs.Crossing as heap
use Rattle.hmac_keys.proofs.Crossing.{key_send, key_sync}
use Rattle.hook_registry.specs.contracts.routes.Routes as Routes
use Rattle.tokens.specs.contracts.claims.Claims as Claims
use Rattle.tokens.specs.contracts.grant.Grant as Grant

routes_send : IsSend (Routes.the_field).row
routes_send = search (heap.crosses, sendable) depth 60 fits 20000

claims_send : IsSend (Claims.the_field).row
claims_send = search (routes_send, heap.crosses, sendable) depth 60 fits 20000

pub grant_send : IsSend (Grant.the_field).row
grant_send = search (claims_send, key_send, key_sync, heap.crosses, sendable) depth 60 fits 20000
