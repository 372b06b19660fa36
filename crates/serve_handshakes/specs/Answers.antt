-- Which answer a request gets.
use Rattle.std.specs.Prelude.{ℕ, Bool, true, false, cond, ◌||◌, ◌&&◌, ◌==◌, nat_le, List, [], ◌∷◌, length, take, drop, map, string_bytes, codes, bytes_eq, Option, None, Some, is_some}
use denote.Ref.{Bor}
use Rattle.websocket.specs.Headers.{eq_ignore_case}
use Rattle.serve_handshakes.specs.declared.answer.Answer.{Answer}
use Rattle.serve_handshakes.specs.declared.answer.Answer.TheVariants.{Socket, Page, Script, Health, Metrics, BadRequest, Forbidden, NotFound, NotAllowed, Options, NoHost, LongBody, Elsewhere}
use Rattle.serve_handshakes.specs.declared.answer.Site.{Site}
use Rattle.serve_handshakes.specs.declared.head.Request.{Request}

-- what stands before the first `?`
abbrev pub path_in : List ℕ → List ℕ
path_in [] = []
path_in (b ∷ bs) = cond (b == 63) [] (b ∷ path_in bs)

-- what stands behind the host of an absolute target
abbrev pub behind_host : List ℕ → List ℕ
behind_host [] = []
behind_host (b ∷ bs) = cond (b == 47 || b == 63) (b ∷ bs) (behind_host bs)

-- the target is absolute: RFC 9112, section 3.2.2
abbrev pub is_absolute : List ℕ → Bool
is_absolute target = nat_le 7 (length target) && eq_ignore_case (take 7 target) (codes "http://")

-- an absolute target without a path names the root
abbrev pub rooted : List ℕ → List ℕ
rooted [] = codes "/"
rooted (b ∷ bs) = b ∷ bs

-- the path that a target names
abbrev pub path_at : List ℕ → List ℕ
path_at target = cond (is_absolute target) (rooted (path_in (behind_host (drop 7 target)))) (path_in target)

-- one of these origins is this one, but for the case of letters
abbrev pub is_among : List (List ℕ) → List ℕ → Bool
is_among [] origin = false
is_among (named ∷ others) origin = cond (eq_ignore_case named origin) true (is_among others origin)

-- Clients of these origins are let in, and of any where none is named. One that tells no origin is no page's.
abbrev pub lets_in : List (List ℕ) → Option (Bor (List ℕ)) → Bool
lets_in origins None = true
lets_in origins (Some origin) = length origins == 0 || is_among origins origin.now

-- what a request for a WebSocket gets
abbrev pub socket_in : Site → Request → Answer
socket_in site r =
    cond site.has_clients
    (cond (is_some r.accept)
    (cond (lets_in (map string_bytes site.origins.now) r.origin) (Socket r.has_protocol) Forbidden) BadRequest)
    Elsewhere

-- what stands at a path
abbrev pub page_in : Site → List ℕ → Answer
page_in site path =
    cond (bytes_eq path (codes "/")) (cond site.has_clients Page Elsewhere)
    (cond (bytes_eq path (codes "/presence.js")) (cond site.has_clients Script Elsewhere)
    (cond (bytes_eq path (codes "/health")) Health
    (cond (bytes_eq path (codes "/metrics")) (cond site.has_metrics Metrics Elsewhere) NotFound)))

-- what a request gets that asks for no WebSocket: a HEAD as a GET (RFC 9110, section 9.3.2)
abbrev pub plain_in : Site → Request → Answer
plain_in site r =
    cond (bytes_eq r.method.now (codes "GET") || bytes_eq r.method.now (codes "HEAD")) (page_in site (path_at r.target.now))
    (cond (bytes_eq r.method.now (codes "OPTIONS")) Options NotAllowed)

-- what a request gets
abbrev pub answer_in : Site → Request → Answer
answer_in site r =
    cond r.has_host (cond r.has_long_body LongBody (cond r.upgrades (socket_in site r) (plain_in site r))) NoHost
