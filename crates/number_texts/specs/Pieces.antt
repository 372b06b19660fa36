-- The pieces of a JSON text, of which quoted texts and runs of number bytes matter. Any bytes have pieces.
use Rattle.std.specs.Prelude.{ℕ, ◌==◌, ◌||◌, ◌&&◌, not, nat_le, Bool, false, List, [], ◌∷◌, ◌++◌, if◌then◌else◌}
use Rattle.json.specs.Word.{is_space}

pub data Piece : Type 0 where
  quoted : List ℕ → Piece
  run : List ℕ → Piece
  other : ℕ → Piece
  open_quote : List ℕ → Piece

-- `+`, `-`, `.`, digits, `E` and `e`
abbrev pub is_run : ℕ → Bool
is_run b = (b == 43) || ((b == 45) || ((b == 46) || ((nat_le 48 b && nat_le b 57) || ((b == 69) || (b == 101)))))

-- a byte that is in no run and begins no quoted text
abbrev pub is_other : ℕ → Bool
is_other b = not (b == 34) && not (is_run b)

-- where a reader of pieces stands: between them, in a quoted text, behind a backslash there, or in a run
pub data State : Type 0 where
  plain : State
  inside : List ℕ → State
  escaped : List ℕ → State
  running : List ℕ → State

abbrev pub scan : State → List ℕ → List Piece
scan plain [] = []
scan plain (b ∷ bs) =
    if b == 34 then scan (inside []) bs
    else if is_run b then scan (running (b ∷ [])) bs
    else other b ∷ scan plain bs
scan (inside t) [] = open_quote t ∷ []
scan (inside t) (b ∷ bs) =
    if b == 34 then quoted t ∷ scan plain bs
    else if b == 92 then scan (escaped (t ++ b ∷ [])) bs
    else scan (inside (t ++ b ∷ [])) bs
scan (escaped t) [] = open_quote t ∷ []
scan (escaped t) (b ∷ bs) = scan (inside (t ++ b ∷ [])) bs
scan (running r) [] = run r ∷ []
scan (running r) (b ∷ bs) =
    if b == 34 then run r ∷ scan (inside []) bs
    else if is_run b then scan (running (r ++ b ∷ [])) bs
    else run r ∷ other b ∷ scan plain bs

abbrev pub pieces : List ℕ → List Piece
pieces s = scan plain s

-- Whether a colon comes first, but for white space. A piece before such pieces is the name of an object's member.
abbrev pub colon_first : List Piece → Bool
colon_first [] = false
colon_first (quoted t ∷ ps) = false
colon_first (run r ∷ ps) = false
colon_first (other b ∷ ps) = (b == 58) || (is_space b && colon_first ps)
colon_first (open_quote t ∷ ps) = false

abbrev pub piece_text : Piece → List ℕ
piece_text (quoted t) = 34 ∷ (t ++ 34 ∷ [])
piece_text (run r) = r
piece_text (other b) = b ∷ []
piece_text (open_quote t) = 34 ∷ t

abbrev pub joined : List Piece → List ℕ
joined [] = []
joined (p ∷ ps) = piece_text p ++ joined ps
