use Rattle.std.proofs.Common.{◌-◌, ◌≤◌, [], take, drop, Option}
use Rattle.std.specs.declared.net.ip_addr.IpAddr.{IpAddr}
use Rattle.serve_handshakes.specs.Clients.{BehindAll, pieces_from}
use Rattle.serve_handshakes.proofs.client.behind_value.Given as goal

-- what is known behind the hops that are left, from what is known so far, is known behind all
abbrev pub invariant-loop-i : goal.invariant-loop-i
invariant-loop-i l = (l.start ≤ l.i)
    × ((after : Option IpAddr)
    → BehindAll l.proxies (pieces_from (take (l.i - l.start) (drop l.start l.value)) (drop l.i l.value)) l.client after
    → BehindAll l.proxies (pieces_from [] l.value) l.fn.before after)
