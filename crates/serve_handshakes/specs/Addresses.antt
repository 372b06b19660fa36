-- What addresses of clients say.
use Rattle.std.specs.Prelude.{◌≡◌, ◌⊎◌, ◌↔◌, ◌++◌, ℕ, Bool, IsTrue, List, [], ◌∷◌, take}
use Rattle.std.specs.Net.Addr.{IsLoopbackV4, IsLoopbackV6, IsPrivate, IsV6And, IsWithinAt, MatchIp, ipv4_octets, ipv6_segments}
use Rattle.std.specs.declared.net.ip_addr.IpAddr.{IpAddr}
use Rattle.serve_handshakes.specs.Clients.{CountsAs}

-- of this machine, or of a private network
abbrev pub IsNear : IpAddr → Type 0
IsNear address = MatchIp address
    (λ ip. IsLoopbackV4 ip ⊎ IsPrivate (ipv4_octets ip))
    (λ ip. IsLoopbackV6 ip ⊎ IsWithinAt (ipv6_segments ip) 0 0xfc00 0xfdff)

-- the same of what the address counts as
abbrev pub IsNearBy : IpAddr → Bool → Type 0
IsNearBy address near = (counts : IpAddr) × CountsAs address counts × (IsTrue near ↔ IsNear counts)

-- the first 64 bits of an address of IPv6
abbrev pub network : List ℕ → List ℕ
network segments = take 4 segments ++ 0 ∷ 0 ∷ 0 ∷ 0 ∷ []

-- What the clients of an address are counted by: an address of IPv4, also where one of IPv6 maps it, and else its network.
abbrev pub IsCountedBy : IpAddr → IpAddr → Type 0
IsCountedBy address by = (counts : IpAddr) × CountsAs address counts
    × MatchIp counts (λ ip. by ≡ counts) (λ ip. IsV6And by (λ k. ipv6_segments k ≡ network (ipv6_segments ip)))
