-- The subprotocols that a request asks for.
use Rattle.std.specs.Prelude.{ℕ, Bool, true, false, cond, ◌||◌, ◌&&◌, ◌==◌, List, [], ◌∷◌, ◌++◌, codes, bytes_eq, Option, None}
use Rattle.std.specs.Option.{option_or}
use Rattle.websocket.specs.Headers.{Fields, eq_ignore_case}
use Rattle.serve_handshakes.specs.Shown.{piece_behind}

-- the piece that began with `piece`, or a later one, is the word
abbrev pub has_word_from : List ℕ → List ℕ → List ℕ → Bool
has_word_from wanted piece [] = bytes_eq piece wanted
has_word_from wanted piece (b ∷ bs) =
    cond (b == 32 || b == 44) (bytes_eq piece wanted || has_word_from wanted [] bs)
    (has_word_from wanted (piece ++ b ∷ []) bs)

-- one of the pieces between spaces and commas is the word
unfoldable pub has_word : List ℕ → List ℕ → Bool
has_word value wanted = has_word_from wanted [] value

-- the field asks for subprotocols, and this is among them
abbrev pub field_asks : List ℕ × List ℕ → List ℕ → Bool
field_asks f wanted = eq_ignore_case f.0 (codes "Sec-WebSocket-Protocol") && has_word f.1 wanted

-- one of the fields does, which are one list (RFC 6455, section 11.3.4)
abbrev pub asks_protocol : Fields → List ℕ → Bool
asks_protocol [] wanted = false
asks_protocol (f ∷ fs) wanted = cond (field_asks f wanted) true (asks_protocol fs wanted)

-- what stands behind this front in the first of a field's that begins with it
abbrev pub field_behind : List ℕ × List ℕ → List ℕ → Option (List ℕ)
field_behind f front = cond (eq_ignore_case f.0 (codes "Sec-WebSocket-Protocol")) (piece_behind 32 44 front f.1) None

-- and in the first of all
abbrev pub protocol_behind : Fields → List ℕ → Option (List ℕ)
protocol_behind [] front = None
protocol_behind (f ∷ fs) front = option_or (field_behind f front) (protocol_behind fs front)
