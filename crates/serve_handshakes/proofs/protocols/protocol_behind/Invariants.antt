use Rattle.std.proofs.Common.{◌≡◌, drop}
use Rattle.websocket.specs.Headers.{fields_of}
use Rattle.serve_handshakes.specs.Protocols.{protocol_behind}
use Rattle.serve_handshakes.proofs.protocols.protocol_behind.Given as goal

-- what is found in the fields is found in those that are left
abbrev pub invariant-loop-span : goal.invariant-loop-span
invariant-loop-span l =
    protocol_behind (fields_of l.head l.spans) l.front ≡ protocol_behind (fields_of l.head (drop l.span-index l.spans)) l.front
