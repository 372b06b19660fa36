-- What is looked at of a request's head, and which bytes open a WebSocket.
use Rattle.std.specs.Prelude.{◌≡◌, ◌≤◌, ◌==◌, ◌&&◌, not, cond, ℕ, Bool, true, false, List, [], ◌++◌, length, take, bytes_eq, codes, decimal, option_map, IfSome, Option, None, Some}
use denote.Ref.{Bor}
use Rattle.httparse.specs.Grammar.{HasNoRequest, MayBecomeRequest, NeverHasRequest}
use Rattle.httparse.specs.Spans.{IsRequestOf, RequestExceeds, RequestOverflows, span_bytes}
use Rattle.httparse.specs.declared.spans.HeaderSpan.{HeaderSpan}
use Rattle.httparse.specs.declared.spans.RequestSpans.{RequestSpans}
use Rattle.websocket.specs.Handshake.{IsValidKey, accept_key_of}
use Rattle.websocket.specs.Headers.{Fields, field_line, fields_of, header_value, value_is, crlf}
use Rattle.serve_handshakes.specs.Fields.{has_host, is_long_body, lists}
use Rattle.serve_handshakes.specs.Protocols.{asks_protocol, protocol_behind}
use Rattle.serve_handshakes.specs.declared.head.TheConstants.{MAX_FIELDS}
use Rattle.serve_handshakes.specs.declared.head.Parsed.{Parsed}
use Rattle.serve_handshakes.specs.declared.head.Parsed.TheVariants.{Partial, Whole, Long, Junk}
use Rattle.serve_handshakes.specs.declared.head.Request.{Request}

-- the fields that these spans cover
abbrev pub fields_at : List ℕ → List HeaderSpan → RequestSpans → Fields
fields_at head spans found = fields_of head (take found.headers spans)

-- the fields ask for a WebSocket of version 13: RFC 6455, section 4.2.1
abbrev pub asks_socket : Fields → Bool
asks_socket fields =
    lists fields (codes "Connection") (codes "Upgrade") && lists fields (codes "Upgrade") (codes "websocket")
    && value_is fields (codes "Sec-WebSocket-Version") (codes "13")

-- the key of a head that asks for a WebSocket as it must
abbrev pub key_in : List ℕ → ℕ → Fields → Option (List ℕ)
key_in method version fields =
    cond (bytes_eq method (codes "GET") && not (version == 0) && asks_socket fields)
    (header_value fields (codes "Sec-WebSocket-Key")) None

-- the same of the head that these spans cover
abbrev pub key_at : List ℕ → List HeaderSpan → RequestSpans → Option (List ℕ)
key_at head spans found = key_in (span_bytes head found.method) found.version (fields_at head spans found)

-- what answers a key, if it is one
abbrev pub IsAcceptOf : Option (List ℕ) → Option (List ℕ) → Type 0
IsAcceptOf (Some key) (Some accept) = IsValidKey key × (accept ≡ accept_key_of key)
IsAcceptOf (Some key) None = ¬ (IsValidKey key)
IsAcceptOf None accept = accept ≡ None

-- the bytes hold a head that asks for a WebSocket as it must, with a key that is one
abbrev pub IsAsking : List ℕ → Type 0
IsAsking head = (spans : List HeaderSpan) × (found : RequestSpans) × (key : List ℕ)
    × IsRequestOf head spans found × (key_at head spans found ≡ Some key) × IsValidKey key

-- a client asked for a WebSocket as it must
abbrev pub HasAsked : Type 0
HasAsked = (head : List ℕ) × IsAsking head

-- what is looked at of the head that these spans cover
pub record IsHeadOf (head : List ℕ) (spans : List HeaderSpan) (found : RequestSpans) (r : Request) : Type 0 where
  pub method : r.method.now ≡ span_bytes head found.method
  pub target : r.target.now ≡ span_bytes head found.path
  pub has_host : r.has_host ≡ has_host found.version (fields_at head spans found)
  pub has_long_body : r.has_long_body ≡ is_long_body (header_value (fields_at head spans found) (codes "Content-Length"))
  pub upgrades : r.upgrades ≡ lists (fields_at head spans found) (codes "Upgrade") (codes "websocket")
  pub origin : option_map (λ (v : Bor (List ℕ)). v.now) r.origin
      ≡ header_value (fields_at head spans found) (codes "Origin")
  pub has_protocol : r.has_protocol ≡ asks_protocol (fields_at head spans found) (codes "phoenix")
  pub carried : option_map (λ (v : Bor (List ℕ)). v.now) r.carried
      ≡ protocol_behind (fields_at head spans found) (codes "base64url.bearer.phx.")
  pub authorization : option_map (λ (v : Bor (List ℕ)). v.now) r.authorization
      ≡ header_value (fields_at head spans found) (codes "Authorization")
  pub accept : IsAcceptOf (key_at head spans found) r.accept
  pub asking : IfSome r.accept (λ key. IsAsking head)
  pub bytes : r.bytes ≡ found.len
  pub within : r.bytes ≤ length head

-- the bytes begin with a request's head, of which this is looked at
abbrev pub HasRequest : List ℕ → Request → Type 0
HasRequest head r = (spans : List HeaderSpan) × (found : RequestSpans)
    × IsRequestOf head spans found × IsHeadOf head spans found r

-- What bytes are: they begin with no head yet, but may become one; with one; with what has more fields than are allowed,
-- whatever follows; or with nothing that is one, whatever follows.
abbrev pub IsParsed : List ℕ → Parsed → Type 0
IsParsed head Partial = HasNoRequest head × MayBecomeRequest head
IsParsed head (Whole r) = HasRequest head r
IsParsed head Long = RequestExceeds MAX_FIELDS head × RequestOverflows MAX_FIELDS head
IsParsed head Junk = NeverHasRequest head

-- the field that tells the subprotocol, where it is told
abbrev pub protocol_line : Bool → List ℕ
protocol_line false = []
protocol_line true = field_line (codes "sec-websocket-protocol") (codes "phoenix")

-- what opens a WebSocket: RFC 6455, section 4.2.2
abbrev pub opening_bytes : List ℕ → Bool → List ℕ
opening_bytes accept has_protocol =
    codes "HTTP/1.1 101 Switching Protocols" ++ crlf
    ++ field_line (codes "connection") (codes "Upgrade")
    ++ field_line (codes "upgrade") (codes "websocket")
    ++ field_line (codes "sec-websocket-accept") accept
    ++ protocol_line has_protocol ++ crlf

-- the reply is that, and a WebSocket follows it
abbrev pub Opens : List ℕ → Bool → List ℕ × Bool → Type 0
Opens accept has_protocol reply = reply ≡ (opening_bytes accept has_protocol, true)

-- an answer without a WebSocket, of this kind and length, with which the connection ends
abbrev pub counted_bytes : List ℕ → List ℕ → ℕ → List ℕ → List ℕ
counted_bytes status kind count sent =
    codes "HTTP/1.1 " ++ (status ++ (codes "\r\ncontent-type: " ++ (kind ++ (codes "\r\ncontent-length: "
    ++ (decimal count ++ (codes "\r\ncache-control: no-store\r\nconnection: close\r\n\r\n" ++ sent))))))

-- its length is that of the body, also where the body isn't sent
abbrev pub plain_bytes : List ℕ → List ℕ → List ℕ → List ℕ → List ℕ
plain_bytes status kind body sent = counted_bytes status kind (length body) sent

-- and one without a body
abbrev pub bare_bytes : List ℕ → List ℕ
bare_bytes status = codes "HTTP/1.1 " ++ (status ++ codes "\r\ncache-control: no-store\r\nconnection: close\r\n\r\n")
