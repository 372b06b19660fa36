use Rattle.std.proofs.Common.{drop, None, Option}
use Rattle.std.specs.declared.net.ip_addr.IpAddr.{IpAddr}
use Rattle.websocket.specs.Headers.{fields_of}
use Rattle.serve_handshakes.specs.Clients.{BehindAll, hops_of}
use Rattle.serve_handshakes.proofs.client.behind_fields.Given as goal

-- what is known behind the hops that are left, from what is known so far, is known behind all
abbrev pub invariant-loop-span : goal.invariant-loop-span
invariant-loop-span l =
    (after : Option IpAddr)
    → BehindAll l.proxies (hops_of (fields_of l.head (drop l.span-index l.spans))) l.client after
    → BehindAll l.proxies (hops_of (fields_of l.head l.spans)) None after
