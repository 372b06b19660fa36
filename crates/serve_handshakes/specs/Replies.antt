-- What is sent for an answer.
use Rattle.std.specs.Prelude.{◌≡◌, ℕ, Bool, false, cond, not, List, [], bytes_eq, codes, Some}
use Rattle.serve_handshakes.specs.Heads.{Opens, bare_bytes, plain_bytes}
use Rattle.serve_handshakes.specs.declared.answer.Answer.{Answer}
use Rattle.serve_handshakes.specs.declared.answer.Answer.TheVariants.{Socket, Page, Script, Health, Metrics, BadRequest, Forbidden, NotFound, NotAllowed, Options, NoHost, LongHead, LongBody, Elsewhere, Unwell, Draining, Full, Crowded, Hasty, Unauthorized}
use Rattle.serve_handshakes.specs.declared.head.Request.{Request}
use Rattle.serve_handshakes.specs.declared.unsigned.Unsigned.{Unsigned}
use Rattle.serve_handshakes.specs.declared.unsigned.Unsigned.TheVariants.{NoToken, Malformed, OtherAlgorithm, BadSignature, BadClaims, TooEarly, Expired}
use Rattle.serve_handshakes.specs.declared.page.TheConstants.{PAGE}
use Rattle.serve_handshakes.specs.declared.script.TheConstants.{SCRIPT}

-- the status of an answer, with the fields that go with it
abbrev pub status_in : Answer → List ℕ
status_in (Socket has_protocol) = codes "101 Switching Protocols"
status_in Page = codes "200 OK"
status_in Script = codes "200 OK\r\naccess-control-allow-origin: *"
status_in Health = codes "200 OK"
status_in Metrics = codes "200 OK"
status_in BadRequest = codes "400 Bad Request"
status_in Forbidden = codes "403 Forbidden"
status_in NotFound = codes "404 Not Found"
status_in NotAllowed = codes "405 Method Not Allowed\r\nallow: GET, HEAD, OPTIONS"
status_in Options = codes "204 No Content\r\nallow: GET, HEAD, OPTIONS"
status_in NoHost = codes "400 Bad Request"
status_in LongHead = codes "431 Request Header Fields Too Large"
status_in LongBody = codes "413 Content Too Large"
status_in Elsewhere = codes "404 Not Found"
status_in Unwell = codes "503 Service Unavailable"
status_in Draining = codes "503 Service Unavailable"
status_in Full = codes "503 Service Unavailable\r\nretry-after: 5"
status_in Crowded = codes "503 Service Unavailable\r\nretry-after: 5"
status_in Hasty = codes "429 Too Many Requests\r\nretry-after: 5"
status_in (Unauthorized why) = codes "401 Unauthorized\r\nwww-authenticate: Bearer"

-- what a client is told that isn't signed in
abbrev pub unsigned_text : Unsigned → List ℕ
unsigned_text NoToken = codes "no token is shown\n"
unsigned_text Malformed = codes "this is no token\n"
unsigned_text OtherAlgorithm = codes "the token is not signed by HS256 alone\n"
unsigned_text BadSignature = codes "the token is signed by none of this server's keys\n"
unsigned_text BadClaims = codes "the token's claims are not what they may be\n"
unsigned_text TooEarly = codes "the token is not valid yet\n"
unsigned_text Expired = codes "the token has expired\n"

-- What stands in the text of an answer: its own words, and of all of them the metrics in that which tells them alone.
abbrev pub Says : List ℕ → Answer → List ℕ → Type 0
Says metrics Page body = body ≡ PAGE.now
Says metrics Script body = body ≡ SCRIPT.now
Says metrics Metrics body = body ≡ metrics
Says metrics Health body = body ≡ codes "ok\n"
Says metrics Unwell body = body ≡ codes "calls fail\n"
Says metrics Draining body = body ≡ codes "draining\n"
Says metrics BadRequest body = body ≡ codes "this is no request for a WebSocket of version 13\n"
Says metrics NoHost body = body ≡ codes "a request tells its host once, by the field Host\n"
Says metrics Forbidden body = body ≡ codes "pages of this origin are not let in\n"
Says metrics NotAllowed body = body ≡ codes "GET, HEAD and OPTIONS are answered\n"
Says metrics LongHead body = body ≡ codes "a request has at most 8192 bytes and 124 fields\n"
Says metrics LongBody body = body ≡ codes "a request has a body of at most 65536 bytes\n"
Says metrics Elsewhere body = body ≡ codes "this is at another port\n"
Says metrics Full body = body ≡ codes "no place is free\n"
Says metrics Crowded body = body ≡ codes "no further client of this address is taken\n"
Says metrics Hasty body = body ≡ codes "clients of this address come too fast\n"
Says metrics (Unauthorized why) body = body ≡ unsigned_text why
Says metrics NotFound body = body ≡ codes "here are /, /health and /metrics\n"
Says metrics Options body = body ≡ codes "here are /, /health and /metrics\n"
Says metrics (Socket has_protocol) body = body ≡ codes "here are /, /health and /metrics\n"

-- as which kind an answer is told
abbrev pub kind_in : Answer → List ℕ
kind_in Page = codes "text/html; charset=utf-8"
kind_in Script = codes "text/javascript; charset=utf-8"
kind_in Metrics = codes "text/plain; version=0.0.4; charset=utf-8"
kind_in answer = codes "text/plain; charset=utf-8"

-- a text of the answer's kind with its status, which is sent, or left out
abbrev pub IsTextReply : List ℕ → Answer → Bool → List ℕ × Bool → Type 0
IsTextReply metrics answer is_sent reply =
    (body : List ℕ) × Says metrics answer body
    × (reply ≡ (plain_bytes (status_in answer) (kind_in answer) body (cond is_sent body []), false))

-- that, or nothing but the methods that there are
abbrev pub IsPlainReply : List ℕ → Answer → Bool → List ℕ × Bool → Type 0
IsPlainReply metrics Options is_sent reply = reply ≡ (bare_bytes (status_in Options), false)
IsPlainReply metrics answer is_sent reply = IsTextReply metrics answer is_sent reply

-- A WebSocket is opened by what answers the request's key. To a HEAD no body is sent: RFC 9110, section 9.3.2.
abbrev pub IsReplyTo : Request → List ℕ → Answer → List ℕ × Bool → Type 0
IsReplyTo request metrics (Socket has_protocol) reply =
    (accept : List ℕ) × (request.accept ≡ Some accept) × Opens accept has_protocol reply
IsReplyTo request metrics answer reply =
    IsPlainReply metrics answer (not (bytes_eq request.method.now (codes "HEAD"))) reply
