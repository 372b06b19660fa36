use Rattle.std.proofs.Common.{◌≡◌, drop}
use Rattle.websocket.specs.Headers.{fields_of}
use Rattle.serve_handshakes.specs.Protocols.{asks_protocol}
use Rattle.serve_handshakes.proofs.protocols.asks_protocol.Given as goal

-- the fields ask for it if those that are left do
abbrev pub invariant-loop-span : goal.invariant-loop-span
invariant-loop-span l =
    asks_protocol (fields_of l.head l.spans) l.wanted ≡ asks_protocol (fields_of l.head (drop l.span-index l.spans)) l.wanted
