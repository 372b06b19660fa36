-- Whom a request is from.
use Rattle.std.specs.Prelude.{◌≡◌, ◌⊎◌, ◌<◌, ℕ, Bool, false, true, cond, ◌||◌, ◌==◌, List, [], ◌∷◌, ◌++◌, codes, length, take, unwrap_or, Option, None, Some}
use Rattle.std.specs.Net.Addr.{IsCanonicalOf, MatchIp, ipv4_octets, ipv6_segments}
use Rattle.std.specs.Net.Grammar.{IsIpText}
use Rattle.std.specs.Str.{bytes_eq}
use Rattle.std.specs.declared.net.ip_addr.IpAddr.{IpAddr}
use Rattle.std.specs.declared.net.ip_addr.IpAddr.TheVariants.{V4, V6}
use Rattle.httparse.specs.Grammar.{ReadsRequest, RequestHead}
use Rattle.httparse.specs.Spans.{IsRequestOf}
use Rattle.httparse.specs.declared.spans.HeaderSpan.{HeaderSpan}
use Rattle.httparse.specs.declared.spans.RequestSpans.{RequestSpans}
use Rattle.websocket.specs.Headers.{Fields, eq_ignore_case, fields_of}
use Rattle.serve_handshakes.specs.declared.head.TheConstants.{MAX_FIELDS}

-- the address counts as this one: one of IPv6 that maps one of IPv4 is that
abbrev pub CountsAs : IpAddr → IpAddr → Type 0
CountsAs written address = MatchIp written (λ _. address ≡ written) (λ ip. IsCanonicalOf ip address)

-- two addresses are one
abbrev pub is_same : IpAddr → IpAddr → Bool
is_same (V4 a) (V4 b) = bytes_eq (ipv4_octets a) (ipv4_octets b)
is_same (V6 a) (V6 b) = bytes_eq (ipv6_segments a) (ipv6_segments b)
is_same (V4 a) (V6 b) = false
is_same (V6 a) (V4 b) = false

-- one of these is the address
abbrev pub is_proxy : List IpAddr → IpAddr → Bool
is_proxy [] address = false
is_proxy (p ∷ ps) address = cond (is_same p address) true (is_proxy ps address)

-- the address that a text writes, as it counts
abbrev pub Writes : List ℕ → IpAddr → Type 0
Writes text address = (written : IpAddr) × IsIpText text written × CountsAs written address

-- The client that is known behind a hop, where the hop before it knew this one: a proxy's word is believed, and any other is
-- the client itself.
abbrev pub farther : List IpAddr → IpAddr → Option IpAddr → IpAddr
farther proxies hop before = cond (is_proxy proxies hop) (unwrap_or before hop) hop

-- The same of a hop's text. One that is no address hides who stands before it; where nothing stands there is no hop.
abbrev pub Behind : List IpAddr → List ℕ → Option IpAddr → Option IpAddr → Type 0
Behind proxies [] before after = after ≡ before
Behind proxies (b ∷ bs) before None = (address : IpAddr) → IsIpText (b ∷ bs) address → ⊥
Behind proxies (b ∷ bs) before (Some after) =
    (hop : IpAddr) × Writes (b ∷ bs) hop × (after ≡ farther proxies hop before)

-- and of several, the farthest from here first
abbrev pub BehindAll : List IpAddr → List (List ℕ) → Option IpAddr → Option IpAddr → Type 0
BehindAll proxies [] before after = after ≡ before
BehindAll proxies (hop ∷ hops) before after =
    (next : Option IpAddr) × Behind proxies hop before next × BehindAll proxies hops next after

-- the pieces between spaces and commas, of which the first has begun with this
abbrev pub pieces_from : List ℕ → List ℕ → List (List ℕ)
pieces_from piece [] = piece ∷ []
pieces_from piece (b ∷ bs) = cond (b == 32 || b == 44) (piece ∷ pieces_from [] bs) (pieces_from (piece ++ b ∷ []) bs)

-- the hops that the fields X-Forwarded-For tell of, in their order
abbrev pub hops_of : Fields → List (List ℕ)
hops_of [] = []
hops_of (f ∷ fs) = cond (eq_ignore_case f.0 (codes "X-Forwarded-For")) (pieces_from [] f.1 ++ hops_of fs) (hops_of fs)

-- Whom a request with these fields is from that came from a peer: the last hop that is no proxy, as far as proxies tell.
abbrev pub IsClientBehind : List IpAddr → IpAddr → Fields → IpAddr → Type 0
IsClientBehind proxies peer fields client = (told : Option IpAddr) × BehindAll proxies (hops_of fields) None told
    × (client ≡ farther proxies peer told)

-- no head stands at the front that has as many fields as are allowed
abbrev pub HasNoShortRequest : List ℕ → Type 0
HasNoShortRequest head = (h : RequestHead) (rest : List ℕ) → ReadsRequest head h rest → MAX_FIELDS < length h.fields

-- the same of bytes that begin with a request's head; where they don't it is the peer
abbrev pub IsClientOf : List IpAddr → List ℕ → IpAddr → IpAddr → Type 0
IsClientOf proxies head peer client =
    ((spans : List HeaderSpan) × (found : RequestSpans) × IsRequestOf head spans found
    × IsClientBehind proxies peer (fields_of head (take found.headers spans)) client)
    ⊎ ((client ≡ peer) × HasNoShortRequest head)
