use Rattle.std.proofs.Common.{◌≡◌, drop}
use Rattle.serve_handshakes.specs.Clients.{is_proxy}
use Rattle.serve_handshakes.proofs.client.is_proxy.Given as goal

-- one of them is the address if one of those that are left is it
abbrev pub invariant-loop-proxy : goal.invariant-loop-proxy
invariant-loop-proxy l = is_proxy l.proxies l.address ≡ is_proxy (drop l.proxy-index l.proxies) l.address
