-- Where no quoted text begins with the mark, as a plain search finds.
use Rattle.std.proofs.Common.{◌≡◌, ℕ, ◌==◌, ◌&&◌, not, Bool, true, false, List, [], ◌∷◌, ◌++◌, ◌<◌, length, map, take, drop, slice_index, suc, Option, None, Some, is_some, refl, sym, ap, subst, ◌∙◌, append_assoc, arith}
use Rattle.std.specs.Bool.{MatchBool}
use Rattle.std.specs.Cmp.Lexicographic.{pointwise}
use Rattle.std.specs.List.{list_all}
use Rattle.std.specs.Str.Iter.{HasSubslice}
use Rattle.std.specs.Str.Pattern.{FindsText, HasMatch}
use Rattle.std.proofs.lemmas.Str.Pattern.{contains_text}
use Rattle.memchr.specs.Find.{IsFirstByte, Nowhere, Passes, is_byte}
use Rattle.number_texts.specs.Pieces.{Piece, quoted, run, other, open_quote, plain, scan, joined}
use Rattle.number_texts.specs.Marks.{mark, has_mark, all_named, has_none, has_no_marks, unmarked_text}
use Rattle.number_texts.specs.Allowed.{all_told}
use Rattle.number_texts.specs.declared.allowed.Numbers.{Numbers}
use Rattle.number_texts.specs.declared.allowed.Numbers.TheVariants.{Whole, Any}
use Rattle.number_texts.proofs.Back.{both, is_same, joined_scan, unmarked_kept}

further : (x s n : List ℕ) → HasSubslice s n → HasSubslice (x ++ s) n
further x s n h = (x ++ h.0, h.1, ap (λ y. x ++ y) h.2 ∙ sym (append_assoc x h.0 (n ++ h.1)))

pub begins : (n t : List ℕ) → pointwise ◌==◌ n (take (length n) t) ≡ true → t ≡ n ++ drop (length n) t
begins [] t e = refl
begins (x ∷ n) [] e = absurd (cc)
begins (x ∷ n) (y ∷ t) e =
    let parts = both (x == y) (pointwise ◌==◌ n (take (length n) t)) e in
    rw (is_same x y parts.0) (ap (λ z. y ∷ z) (begins n t parts.1))

-- the text of a quoted piece that begins with the mark, before what follows
here : (t s : List ℕ) → has_mark t ≡ true → HasSubslice (34 ∷ ((t ++ 34 ∷ []) ++ s)) (34 ∷ mark)
here t s e =
    let rest = drop 6 t in
    let whole : t ≡ mark ++ rest = begins mark t e in
    ([], (rest ++ 34 ∷ []) ++ s, ap (λ x. 34 ∷ ((x ++ 34 ∷ []) ++ s)) whole)

by_first : (m : Bool) (t : List ℕ) (ps : List Piece) → has_mark t ≡ m → (not m && all_named has_none ps) ≡ false
    → (all_named has_none ps ≡ false → HasSubslice (joined ps) (34 ∷ mark))
    → HasSubslice (34 ∷ ((t ++ 34 ∷ []) ++ joined ps)) (34 ∷ mark)
by_first true t ps e is behind = here t (joined ps) e
by_first false t ps e is behind = further (34 ∷ (t ++ 34 ∷ [])) (joined ps) (34 ∷ mark) (behind is)

stands : (ps : List Piece) → all_named has_none ps ≡ false → HasSubslice (joined ps) (34 ∷ mark)
stands [] e = absurd (cc)
stands (quoted t ∷ ps) e = by_first (has_mark t) t ps refl e (λ is. stands ps is)
stands (run r ∷ ps) e = further r (joined ps) (34 ∷ mark) (stands ps e)
stands (other b ∷ ps) e = further (b ∷ []) (joined ps) (34 ∷ mark) (stands ps e)
stands (open_quote t ∷ ps) e = further (34 ∷ t) (joined ps) (34 ∷ mark) (stands ps e)

if_found : (v : Bool) (s : List ℕ) → all_named has_none (scan plain s) ≡ v → (HasSubslice s (34 ∷ mark) → ⊥) → v ≡ true
if_found true s e none = refl
if_found false s e none = absurd (none (subst (λ x. HasSubslice x (34 ∷ mark)) (joined_scan plain s) (stands (scan plain s) e)))

never : (r : Bool) → r ≡ false → r ≡ true → ⊥
never true e f = absurd (cc)
never false e f = absurd (cc)

-- a search for the quote and the mark that finds nothing
pub unless_found : (r : Bool) (s : List ℕ) → MatchBool r (HasMatch (FindsText (34 ∷ mark)) s) (FindsText (34 ∷ mark) s None)
    → r ≡ false → has_no_marks s ≡ true
unfolding has_no_marks
unless_found r s found e =
    if_found (all_named has_none (scan plain s)) s refl (λ h. never r e ((contains_text r (34 ∷ mark) s found).1 h))

-- ---- a search for a backslash that finds none

-- where the mark stands behind a quote, its backslash stands
stands_at : (x s : List ℕ) → slice_index (x ++ (34 ∷ (92 ∷ s))) (suc (length x)) ≡ 92
stands_at [] s = refl
stands_at (b ∷ x) s = stands_at x s

within : (x s : List ℕ) → suc (length x) < length (x ++ (34 ∷ (92 ∷ s)))
within [] s = omega arith
within (b ∷ x) s =
    let before : suc (length x) < length (x ++ (34 ∷ (92 ∷ s))) = within x s in
    omega arith

no_mark : (s : List ℕ) → Nowhere (Passes (is_byte 92) s) 0 (length s) → HasSubslice s (34 ∷ mark) → ⊥
no_mark s none h =
    let behind = 117 ∷ (48 ∷ (48 ∷ (48 ∷ (48 ∷ h.1)))) in
    let at = suc (length h.0) in
    let whole : s ≡ h.0 ++ (34 ∷ (92 ∷ behind)) = h.2 in
    let is : slice_index s at ≡ 92 = rw whole (stands_at h.0 behind) in
    let lt : at < length s = rw whole (within h.0 behind) in
    none at (omega arith) lt (rw is refl)

pub unless_backslash : (r : Option ℕ) (s : List ℕ) → IsFirstByte (is_byte 92) s r → is_some r ≡ false → has_no_marks s ≡ true
unfolding has_no_marks
unless_backslash None s none e = if_found (all_named has_none (scan plain s)) s refl (no_mark s none)
unless_backslash (Some k) s first e = absurd (cc)

-- ---- texts of which none has a mark

all_kept : (ts : List (List ℕ)) → list_all has_no_marks ts ≡ true → map unmarked_text ts ≡ ts
all_kept [] all = refl
all_kept (t ∷ ts) all =
    let parts = both (has_no_marks t) (list_all has_no_marks ts) all in
    rw (unmarked_kept t parts.0, all_kept ts parts.1) refl

pub told_as_they_are : (n : Numbers) (ts : List (List ℕ)) → list_all has_no_marks ts ≡ true → ts ≡ all_told n ts
told_as_they_are Whole ts all = refl
told_as_they_are Any ts all = sym (all_kept ts all)
