use Rattle.std.proofs.Common.{◌≡◌}
use Rattle.serve_handshakes.specs.Greeting.{IsKnownFrom}
use Rattle.serve_handshakes.proofs.greeting.read_on.Given as goal

-- what is read changes nothing of how the handshake is done, and tells whom it is with only where a proxy may
abbrev pub invariant-loop : goal.invariant-loop
invariant-loop g l = record {
  config : l.party.config ≡ l.fn.party.config;
  reads : l.party.empty_reads ≡ l.fn.party.empty_reads;
  address : IsKnownFrom l.fn.front.proxies.now l.fn.party.address l.party.address;
  proxies : l.front.proxies ≡ l.fn.front.proxies;
}
