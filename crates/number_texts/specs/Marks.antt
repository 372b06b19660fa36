-- Texts that are marked, and unmarked.
use Rattle.std.specs.Prelude.{ℕ, ◌==◌, ◌&&◌, not, Bool, true, List, [], ◌∷◌, ◌++◌, drop, if◌then◌else◌, Option, Some, None, String, string_bytes}
use Rattle.std.specs.Global.{Global}
use Rattle.std.specs.List.{starts_with}
use Rattle.number_texts.specs.Pieces.{Piece, quoted, run, other, open_quote, colon_first, pieces, joined}
use Rattle.number_texts.specs.Numbers.{is_marked_number}

-- `\u0000`: JSON has no other spelling of that character
abbrev pub mark : List ℕ
mark = 92 ∷ 117 ∷ 48 ∷ 48 ∷ 48 ∷ 48 ∷ []

abbrev pub has_mark : List ℕ → Bool
has_mark t = starts_with ◌==◌ t mark

-- A number that is marked becomes a text, unless it stands as a name, where JSON has no number. A text with the mark gets
-- one more, also where it is a name.
abbrev pub marked : Bool → Piece → Piece
marked is_name (run r) = if not is_name && is_marked_number r then quoted (mark ++ r) else run r
marked is_name (quoted t) = if has_mark t then quoted (mark ++ t) else quoted t
marked is_name (other b) = other b
marked is_name (open_quote t) = open_quote t

-- What stands behind a text's mark. Where it has one more it is a text, and where it is a number that is marked it is
-- that number, unless it stands as a name. Else it keeps its mark. So nothing but numbers gets out of its quotes, and
-- nothing does as a name, whoever wrote it.
abbrev pub behind : Bool → List ℕ → Piece
behind is_name t =
    if has_mark t then quoted t
    else if not is_name && is_marked_number t then run t
    else quoted (mark ++ t)

abbrev pub unmarked : Bool → Piece → Piece
unmarked is_name (quoted t) = if has_mark t then behind is_name (drop 6 t) else quoted t
unmarked is_name (run r) = run r
unmarked is_name (other b) = other b
unmarked is_name (open_quote t) = open_quote t

-- what becomes of pieces, and whether a test holds of each, by whether it is a name
abbrev pub map_named : (Bool → Piece → Piece) → List Piece → List Piece
map_named f [] = []
map_named f (p ∷ ps) = f (colon_first ps) p ∷ map_named f ps

abbrev pub all_named : (Bool → Piece → Bool) → List Piece → Bool
all_named f [] = true
all_named f (p ∷ ps) = f (colon_first ps) p && all_named f ps

-- a client's text as a session reads it, and a session's as the client reads it
unfoldable pub marked_text : List ℕ → List ℕ
marked_text s = joined (map_named marked (pieces s))

unfoldable pub unmarked_text : List ℕ → List ℕ
unmarked_text s = joined (map_named unmarked (pieces s))

-- nothing of a piece is to be marked, or to be unmarked
abbrev pub needs_no_mark : Bool → Piece → Bool
needs_no_mark is_name (run r) = not (not is_name && is_marked_number r)
needs_no_mark is_name (quoted t) = not (has_mark t)
needs_no_mark is_name (other b) = true
needs_no_mark is_name (open_quote t) = true

abbrev pub has_none : Bool → Piece → Bool
has_none is_name (run r) = true
has_none is_name (quoted t) = not (has_mark t)
has_none is_name (other b) = true
has_none is_name (open_quote t) = true

-- a text with no number to mark and no text that begins with the mark; one with no such text
unfoldable pub needs_no_marks : List ℕ → Bool
needs_no_marks s = all_named needs_no_mark (pieces s)

unfoldable pub has_no_marks : List ℕ → Bool
has_no_marks s = all_named has_none (pieces s)

-- what a text has become: nothing where it stays as it is
abbrev pub become : List ℕ → Option (String Global) → List ℕ
become s None = s
become s (Some t) = string_bytes t
