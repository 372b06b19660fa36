-- The token that a request shows.
use Rattle.std.specs.Prelude.{ℕ, ◌==◌, ◌||◌, ◌&&◌, cond, nat_le, List, [], ◌∷◌, ◌++◌, length, take, drop, codes, Option, Some, None, unwrap_or}
use Rattle.std.specs.Cmp.Lexicographic.{pointwise}
use Rattle.std.specs.Option.{option_or}
use Rattle.std.specs.Result.{result_ok}
use denote.Ref.{Bor}
use Rattle.base64.specs.GeneralPurpose.{decode_of}
use Rattle.base64.specs.Engines.{url_safe_no_pad}
use Rattle.websocket.specs.Headers.{eq_ignore_case}
use Rattle.serve_handshakes.specs.declared.head.Request.{Request}

-- what stands behind this front, where the text begins with it
abbrev pub behind : List ℕ → List ℕ → Option (List ℕ)
behind front text = cond (pointwise ◌==◌ (take (length front) text) front) (Some (drop (length front) text)) None

-- the same of the piece that began with `piece`, or else of a later one
abbrev pub piece_from : ℕ → ℕ → List ℕ → List ℕ → List ℕ → Option (List ℕ)
piece_from one other front piece [] = behind front piece
piece_from one other front piece (b ∷ bs) =
    cond (b == one || b == other) (option_or (behind front piece) (piece_from one other front [] bs))
    (piece_from one other front (piece ++ b ∷ []) bs)

-- what stands behind this front in the first of the pieces between these bytes that begins with it
unfoldable pub piece_behind : ℕ → ℕ → List ℕ → List ℕ → Option (List ℕ)
piece_behind one other front text = piece_from one other front [] text

-- the bytes that a text encodes in base64 for URLs without padding, and none where it encodes none
abbrev pub decoded_in : List ℕ → List ℕ
decoded_in text = unwrap_or (result_ok (decode_of url_safe_no_pad text)) []

-- the token that a subprotocol carries, as phoenix.js sends its `authToken`
abbrev pub protocol_token : Option (Bor (List ℕ)) → Option (List ℕ)
protocol_token None = None
protocol_token (Some text) = Some (decoded_in text.now)

-- what stands behind `Bearer`, whatever the case of its letters, and one space
abbrev pub bearer_in : List ℕ → Option (List ℕ)
bearer_in value =
    cond (nat_le 7 (length value) && eq_ignore_case (take 7 value) (codes "Bearer ")) (Some (drop 7 value)) None

-- what stands behind the first `?`
abbrev pub query_in : List ℕ → List ℕ
query_in [] = []
query_in (b ∷ bs) = cond (b == 63) bs (query_in bs)

abbrev pub query_token : List ℕ → Option (List ℕ)
query_token target = piece_behind 38 38 (codes "token=") (query_in target)

abbrev pub field_token : Option (Bor (List ℕ)) → Option (List ℕ)
field_token None = None
field_token (Some value) = bearer_in value.now

abbrev pub header_token : Request → Option (List ℕ)
header_token r = option_or (field_token r.authorization) (query_token r.target.now)

-- that of a subprotocol, or else of the field `Authorization`, or else of the query
abbrev pub shown_in : Request → Option (List ℕ)
shown_in r = option_or (protocol_token r.carried) (header_token r)
