-- Where links may come from.
use Rattle.std.specs.Prelude.{◌≡◌, Bool, false, true, cond, ◌||◌, ◌==◌, List, [], ◌∷◌, length}
use Rattle.std.specs.Net.Addr.{IsCanonicalOf, MatchIp, ipv4_octets, ipv6_segments}
use Rattle.std.specs.Str.{bytes_eq}
use Rattle.std.specs.declared.net.ip_addr.IpAddr.{IpAddr}
use Rattle.std.specs.declared.net.ip_addr.IpAddr.TheVariants.{V4, V6}

-- the host counts as this address: one of IPv6 that maps one of IPv4 is that
abbrev pub CountsAs : IpAddr → IpAddr → Type 0
CountsAs host address = MatchIp host (λ _. address ≡ host) (λ ip. IsCanonicalOf ip address)

-- two addresses are one
abbrev pub is_same : IpAddr → IpAddr → Bool
is_same (V4 a) (V4 b) = bytes_eq (ipv4_octets a) (ipv4_octets b)
is_same (V6 a) (V6 b) = bytes_eq (ipv6_segments a) (ipv6_segments b)
is_same (V4 a) (V6 b) = false
is_same (V6 a) (V4 b) = false

-- one of these is the address
abbrev pub is_one_of : List IpAddr → IpAddr → Bool
is_one_of [] address = false
is_one_of (a ∷ others) address = cond (is_same a address) true (is_one_of others address)

-- where no address is given a link may come from any host, and else from one that counts as one of these
abbrev pub Admits : List IpAddr → IpAddr → Bool → Type 0
Admits from host may = (address : IpAddr) × CountsAs host address × (may ≡ (length from == 0 || is_one_of from address))
