-- What becomes of a text, part by part.
use Rattle.std.proofs.Common.{◌≡◌, ℕ, zero, suc, ◌+◌, ◌<◌, ◌==◌, ◌&&◌, Bool, true, false, List, [], ◌∷◌, ◌++◌, map, length, take, get_or, IsUtf8, refl, sym, ap, ◌∙◌, append-nil, arith}
use Rattle.std.specs.List.{list_all}
use Rattle.std.specs.Str.{IsCharBoundary}
use Rattle.std.specs.Cmp.Lexicographic.{pointwise}
use Rattle.std.proofs.lemmas.Str.{IsCharBoundary-after_ascii}
use Rattle.number_texts.specs.Pieces.{Piece, quoted, run, other, open_quote, colon_first, pieces, piece_text, joined}
use Rattle.number_texts.specs.Marks.{mark, has_mark, marked, unmarked, map_named, all_named, needs_no_mark, has_none}
use Rattle.number_texts.specs.Changes.{Becomes, Splits, all_stay, change_text, changed, changed_text, part_pieces, stays}
use Rattle.number_texts.specs.declared.pieces.Part.{Part}
use Rattle.number_texts.specs.declared.pieces.Part.TheVariants.{Quoted, Open, Run, Between}
use Rattle.number_texts.specs.declared.pieces.Split.{Split}
use Rattle.number_texts.specs.declared.marks.Change.{Change}
use Rattle.number_texts.specs.declared.marks.Way.{Way}
use Rattle.number_texts.specs.declared.marks.Way.TheVariants.{In, Out}
use Rattle.number_texts.proofs.Back.{both, is_same}

-- ---- what stands between

pub joined_others : (t : List ℕ) → joined (map other t) ≡ t
joined_others [] = refl
joined_others (b ∷ t) = ap (λ x. b ∷ x) (joined_others t)

same_others : (n : Bool) (t : List ℕ) → map (marked n) (map other t) ≡ map other t
same_others n [] = refl
same_others n (b ∷ t) = ap (λ x. other b ∷ x) (same_others n t)

left_others : (n : Bool) (t : List ℕ) → map (unmarked n) (map other t) ≡ map other t
left_others n [] = refl
left_others n (b ∷ t) = ap (λ x. other b ∷ x) (left_others n t)

need_none : (n : Bool) (t : List ℕ) → list_all (needs_no_mark n) (map other t) ≡ true
need_none n [] = refl
need_none n (b ∷ t) = need_none n t

have_none : (n : Bool) (t : List ℕ) → list_all (has_none n) (map other t) ≡ true
have_none n [] = refl
have_none n (b ∷ t) = have_none n t

pub others_marked : (n : Bool) (t : List ℕ)
    → (joined (map (marked n) (map other t)) ≡ joined (map other t)) × (true ≡ list_all (needs_no_mark n) (map other t))
others_marked n t = (ap joined (same_others n t), sym (need_none n t))

pub others_unmarked : (n : Bool) (t : List ℕ)
    → (joined (map (unmarked n) (map other t)) ≡ joined (map other t)) × (true ≡ list_all (has_none n) (map other t))
others_unmarked n t = (ap joined (left_others n t), sym (have_none n t))

-- ---- a part, and what is behind it

and_true : (a : Bool) → a ≡ (a && true)
and_true true = refl
and_true false = refl

-- one piece, whether its test holds, and those behind it
one_stays : (a b : Bool) → (a && b) ≡ ((a && true) && b)
one_stays a b = ap (λ x. x && b) (and_true a)

others_stay : (w : Way) (n : Bool) (t : List ℕ) (qs : List Piece)
    → all_named (stays w) (map other t ++ qs) ≡ (list_all (stays w n) (map other t) && all_named (stays w) qs)
others_stay w n [] qs = refl
others_stay In n (b ∷ t) qs = others_stay In n t qs
others_stay Out n (b ∷ t) qs = others_stay Out n t qs

parts_stay : (w : Way) (p : Part) (qs : List Piece)
    → all_named (stays w) (part_pieces p ++ qs) ≡ (list_all (stays w (colon_first qs)) (part_pieces p) && all_named (stays w) qs)
parts_stay w (Quoted t) qs = one_stays (stays w (colon_first qs) (quoted t.now)) (all_named (stays w) qs)
parts_stay w (Open t) qs = one_stays (stays w (colon_first qs) (open_quote t.now)) (all_named (stays w) qs)
parts_stay w (Run t) qs = one_stays (stays w (colon_first qs) (run t.now)) (all_named (stays w) qs)
parts_stay w (Between t) qs = others_stay w (colon_first qs) t.now qs

both_parts : (w : Way) (s : List ℕ) (r : Split) (n : Bool) → Splits s r → n ≡ colon_first (pieces r.rest.now)
    → all_stay w s ≡ (list_all (stays w n) (part_pieces r.part) && all_stay w r.rest.now)
both_parts w s r n splits e =
    ap (all_named (stays w)) splits.0 ∙ parts_stay w r.part (pieces r.rest.now)
    ∙ ap (λ k. list_all (stays w k) (part_pieces r.part) && all_stay w r.rest.now) (sym e)

pub stays_on : (w : Way) (s : List ℕ) (r : Split) (n : Bool) → Splits s r → n ≡ colon_first (pieces r.rest.now)
    → true ≡ list_all (stays w n) (part_pieces r.part) → all_stay w s ≡ all_stay w r.rest.now
stays_on w s r n splits e is = both_parts w s r n splits e ∙ ap (λ b. b && all_stay w r.rest.now) (sym is)

pub stops_at : (w : Way) (s : List ℕ) (r : Split) (n : Bool) → Splits s r → n ≡ colon_first (pieces r.rest.now)
    → false ≡ list_all (stays w n) (part_pieces r.part) → all_stay w s ≡ false
stops_at w s r n splits e is = both_parts w s r n splits e ∙ ap (λ b. b && all_stay w r.rest.now) (sym is)

-- one piece, its text, and what is behind
one_joined : (p : Piece) (s : List ℕ) → piece_text p ++ s ≡ (piece_text p ++ []) ++ s
one_joined p s = ap (λ x. x ++ s) (sym (append-nil (piece_text p)))

others_joined : (w : Way) (n : Bool) (t : List ℕ) (qs : List Piece)
    → joined (map_named (changed w) (map other t ++ qs)) ≡ joined (map (changed w n) (map other t)) ++ joined (map_named (changed w) qs)
others_joined w n [] qs = refl
others_joined In n (b ∷ t) qs = ap (λ x. b ∷ x) (others_joined In n t qs)
others_joined Out n (b ∷ t) qs = ap (λ x. b ∷ x) (others_joined Out n t qs)

parts_joined : (w : Way) (p : Part) (qs : List Piece)
    → joined (map_named (changed w) (part_pieces p ++ qs))
    ≡ joined (map (changed w (colon_first qs)) (part_pieces p)) ++ joined (map_named (changed w) qs)
parts_joined w (Quoted t) qs = one_joined (changed w (colon_first qs) (quoted t.now)) (joined (map_named (changed w) qs))
parts_joined w (Open t) qs = one_joined (changed w (colon_first qs) (open_quote t.now)) (joined (map_named (changed w) qs))
parts_joined w (Run t) qs = one_joined (changed w (colon_first qs) (run t.now)) (joined (map_named (changed w) qs))
parts_joined w (Between t) qs = others_joined w (colon_first qs) t.now qs

pub goes_on : (w : Way) (s : List ℕ) (r : Split) (n : Bool) (c : Change) → Splits s r → n ≡ colon_first (pieces r.rest.now)
    → Becomes w n r.part c → changed_text w s ≡ change_text r.part c ++ changed_text w r.rest.now
goes_on w s r n c splits e becomes =
    let behind = changed_text w r.rest.now in
    ap (λ ps. joined (map_named (changed w) ps)) splits.0 ∙ parts_joined w r.part (pieces r.rest.now)
    ∙ ap (λ k. joined (map (changed w k) (part_pieces r.part)) ++ behind) (sym e) ∙ ap (λ x. x ++ behind) becomes.0

-- ---- a mark

has_all : (n t : List ℕ) → pointwise ◌==◌ n (take (length n) t) ≡ true → (k : ℕ) → k < length n
    → (k < length t) × (get_or t k 0 ≡ get_or n k 0)
has_all [] t e k within = absurd (omega arith)
has_all (x ∷ n) [] e k within = absurd (cc)
has_all (x ∷ n) (y ∷ t) e zero within =
    let parts = both (x == y) (pointwise ◌==◌ n (take (length n) t)) e in
    (omega arith, sym (is_same x y parts.0))
has_all (x ∷ n) (y ∷ t) e (suc k) within =
    let parts = both (x == y) (pointwise ◌==◌ n (take (length n) t)) e in
    let rest = has_all n t parts.1 k (omega arith) in
    (omega (arith, rest.0), rest.1)

pub mark_cuts : (t : List ℕ) → IsUtf8 t → has_mark t ≡ true → IsCharBoundary t 6
mark_cuts t utf8 e =
    let at = has_all mark t e 5 (omega arith) in
    IsCharBoundary-after_ascii t 5 utf8 at.0 (omega (arith, at.1))
