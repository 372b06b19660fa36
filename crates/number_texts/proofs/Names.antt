-- Names stay names, whichever way a text goes.
use Rattle.std.proofs.Common.{◌≡◌, ℕ, ◌==◌, ◌||◌, ◌&&◌, Bool, true, false, List, [], ◌∷◌, ◌++◌, drop, if◌then◌else◌, refl, ap}
use Rattle.json.specs.Word.{is_space}
use Rattle.number_texts.specs.Numbers.{is_marked_number}
use Rattle.number_texts.specs.Marks.{mark, has_mark, behind, unmarked, map_named}
use Rattle.number_texts.specs.Pieces.{Piece, quoted, run, other, open_quote, colon_first}

further_text : (m : Bool) (t : List ℕ) → (u : List ℕ) × ((if m then quoted t else quoted (mark ++ t)) ≡ quoted u)
further_text true t = (t, refl)
further_text false t = (mark ++ t, refl)

text_by : (m : Bool) (t : List ℕ) → (u : List ℕ) × ((if m then behind true (drop 6 t) else quoted t) ≡ quoted u)
text_by true t = further_text (has_mark (drop 6 t)) (drop 6 t)
text_by false t = (t, refl)

-- a quoted name goes out as one
pub name_told : (t : List ℕ) → (u : List ℕ) × (unmarked true (quoted t) ≡ quoted u)
name_told t = text_by (has_mark t) t

none_behind : (m k : Bool) (t : List ℕ) (ps : List Piece)
    → colon_first ((if m then quoted t else if k then run t else quoted (mark ++ t)) ∷ ps) ≡ false
none_behind true k t ps = refl
none_behind false true t ps = refl
none_behind false false t ps = refl

none_quoted : (n m : Bool) (t : List ℕ) (ps : List Piece) → colon_first ((if m then behind n (drop 6 t) else quoted t) ∷ ps) ≡ false
none_quoted true true t ps = none_behind (has_mark (drop 6 t)) false (drop 6 t) ps
none_quoted false true t ps = none_behind (has_mark (drop 6 t)) (is_marked_number (drop 6 t)) (drop 6 t) ps
none_quoted n false t ps = refl

-- a piece stands before a colon where it goes out just where it did
pub colon_kept : (ps : List Piece) → colon_first (map_named unmarked ps) ≡ colon_first ps
colon_kept [] = refl
colon_kept (quoted t ∷ ps) = none_quoted (colon_first ps) (has_mark t) t (map_named unmarked ps)
colon_kept (run r ∷ ps) = refl
colon_kept (other b ∷ ps) = ap (λ x. (b == 58) || (is_space b && x)) (colon_kept ps)
colon_kept (open_quote t ∷ ps) = refl
