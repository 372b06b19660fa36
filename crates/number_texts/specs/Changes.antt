-- Pieces as code holds them, and what becomes of each. Only the crate's private clauses cite it.
use Rattle.std.specs.Prelude.{◌≡◌, ◌<◌, ◌+◌, ℕ, IsCharBoundary, ◌==◌, ◌&&◌, not, Bool, true, false, List, [], ◌∷◌, ◌++◌, map, length, option_map, Option, Some, None, suc, cond}
use Rattle.std.specs.List.{list_all}
use Rattle.number_texts.specs.Pieces.{Piece, quoted, run, other, open_quote, pieces, joined}
use Rattle.number_texts.specs.Marks.{mark, marked, unmarked, map_named, all_named, needs_no_mark, has_none}
use Rattle.number_texts.specs.declared.pieces.Part.{Part}
use Rattle.number_texts.specs.declared.pieces.Part.TheVariants.{Quoted, Open, Run, Between}
use Rattle.number_texts.specs.declared.pieces.Split.{Split}
use Rattle.number_texts.specs.declared.marks.Way.{Way}
use Rattle.number_texts.specs.declared.marks.Way.TheVariants.{In, Out}
use Rattle.number_texts.specs.declared.marks.Change.{Change}
use Rattle.number_texts.specs.declared.marks.Change.TheVariants.{Kept, Marked, Text, Number}

-- the pieces that a part is
abbrev pub part_pieces : Part → List Piece
part_pieces (Quoted t) = quoted t.now ∷ []
part_pieces (Open t) = open_quote t.now ∷ []
part_pieces (Run t) = run t.now ∷ []
part_pieces (Between t) = map other t.now

-- where a quoted text ends, behind a backslash or not
abbrev pub close_at : Bool → List ℕ → Option ℕ
close_at e [] = None
close_at e (b ∷ bs) = cond (not e && (b == 34)) (Some 0) (option_map suc (close_at (not e && (b == 92)) bs))

-- a text is a part and what is behind
abbrev pub Splits : List ℕ → Split → Type 0
Splits s r = (pieces s ≡ part_pieces r.part ++ pieces r.rest.now) × (length r.rest.now < length s)

-- a text can be cut before this byte of it and behind
abbrev pub CutsAt : List ℕ → ℕ → Type 0
CutsAt s k = (k < length s) × IsCharBoundary s k × IsCharBoundary s (k + 1)

-- what becomes of a piece that goes this way, by whether it is a name, and whether that is the piece itself
abbrev pub changed : Way → Bool → Piece → Piece
changed In = marked
changed Out = unmarked

abbrev pub stays : Way → Bool → Piece → Bool
stays In = needs_no_mark
stays Out = has_none

-- the text of a part that has become this
abbrev pub change_text : Part → Change → List ℕ
change_text p Kept = joined (part_pieces p)
change_text p (Marked t) = 34 ∷ ((mark ++ t.now) ++ 34 ∷ [])
change_text p (Text t) = 34 ∷ (t.now ++ 34 ∷ [])
change_text p (Number t) = t.now

abbrev pub is_kept : Change → Bool
is_kept Kept = true
is_kept (Marked t) = false
is_kept (Text t) = false
is_kept (Number t) = false

-- what becomes of a part, by whether it is a name
abbrev pub Becomes : Way → Bool → Part → Change → Type 0
Becomes w is_name p c =
    (joined (map (changed w is_name) (part_pieces p)) ≡ change_text p c)
    × (is_kept c ≡ list_all (stays w is_name) (part_pieces p))

abbrev pub changed_text : Way → List ℕ → List ℕ
changed_text w s = joined (map_named (changed w) (pieces s))

abbrev pub all_stay : Way → List ℕ → Bool
all_stay w s = all_named (stays w) (pieces s)
