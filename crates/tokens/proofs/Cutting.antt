-- Where the first dot of a text is.
use Rattle.std.proofs.Common.{◌≡◌, ℕ, zero, suc, ◌<◌, ◌+◌, ◌-◌, ◌==◌, Bool, true, false, cond, List, [], ◌∷◌, ◌++◌, length, get_or, take, drop, length-drop, Option, Some, None, option_map, option_and_then, unwrap_or, add-one, refl, ap, sym, ◌∙◌, append_assoc, arith}
use Rattle.std.proofs.lemmas.List.{take_all}
use Rattle.tokens.specs.Parts.{PartTexts, behind_head, cut_in, parts_behind, parts_in, signed_text, with_first}

not_dot : (b : ℕ) → (b ≡ 46 → ⊥) → (b == 46) ≡ false
not_dot b other = grind arith

pub cut_found : (text : List ℕ) (i : ℕ) → i < length text → ((k : ℕ) → k < i → get_or text k 0 ≡ 46 → ⊥)
    → get_or text i 0 ≡ 46 → cut_in text ≡ Some (take i text, drop (suc i) text)
cut_found [] i low before here = absurd (omega arith)
cut_found (b ∷ bs) zero low before here = rw here refl
cut_found (b ∷ bs) (suc i) low before here =
    rw (not_dot b (before 0 (omega arith)), cut_found bs i (omega arith) (λ k below. before (suc k) (omega arith)) here) refl

pub cut_missed : (text : List ℕ) → ((k : ℕ) → k < length text → get_or text k 0 ≡ 46 → ⊥) → cut_in text ≡ None
cut_missed [] none = refl
cut_missed (b ∷ bs) none =
    rw (not_dot b (none 0 (omega arith)), cut_missed bs (λ k below. none (suc k) (omega arith))) refl

-- the same, as the code slices
pub cut_found_here : (text : List ℕ) (i : ℕ) → i < length text → ((k : ℕ) → k < i → get_or text k 0 ≡ 46 → ⊥)
    → get_or text i 0 ≡ 46 → cut_in text ≡ Some (take i text, take (length text - (i + 1)) (drop (i + 1) text))
cut_found_here text i low before here =
    rw (take_all (length text - (i + 1)) (drop (i + 1) text) (grind (arith, length-drop (i + 1) text)), add-one) (cut_found text i low before here)

is_dot : (b : ℕ) → (b == 46) ≡ true → b ≡ 46
is_dot b is = grind arith

same_pair : (x y : List ℕ × List ℕ) → Some x ≡ Some y → x ≡ y
same_pair x y is = ap (λ o. unwrap_or o x) is

-- the text again, by the first byte and by what is found behind it
at_byte : (t : Bool) (o : Option (List ℕ × List ℕ)) (b : ℕ) (bs : List ℕ) (p : List ℕ × List ℕ) → (b == 46) ≡ t
    → ((q : List ℕ × List ℕ) → o ≡ Some q → bs ≡ q.0 ++ 46 ∷ q.1)
    → cond t (Some ([], bs)) (option_map (with_first b) o) ≡ Some p → b ∷ bs ≡ p.0 ++ 46 ∷ p.1
at_byte true o b bs p dot rest is = rw (← same_pair _ _ is, is_dot b dot) refl
at_byte false None b bs p dot rest is = absurd (cc)
at_byte false (Some q) b bs p dot rest is = rw (← same_pair _ _ is, rest q refl) refl

pub cut_back : (text : List ℕ) (p : List ℕ × List ℕ) → cut_in text ≡ Some p → text ≡ p.0 ++ 46 ∷ p.1
cut_back [] p is = absurd (cc)
cut_back (b ∷ bs) p is = at_byte (b == 46) (cut_in bs) b bs p refl (λ q found. cut_back bs q found) is

same_parts : (x y : PartTexts) → Some x ≡ Some y → x ≡ y
same_parts x y is = ap (λ o. unwrap_or o x) is

by_rest : (o : Option (List ℕ × List ℕ)) (rest head : List ℕ) (p : PartTexts)
    → ((q : List ℕ × List ℕ) → o ≡ Some q → rest ≡ q.0 ++ 46 ∷ q.1)
    → option_map (behind_head head) o ≡ Some p → head ++ 46 ∷ rest ≡ signed_text p.head p.claims ++ 46 ∷ p.signature
by_rest None rest head p back is = absurd (cc)
by_rest (Some q) rest head p back is =
    rw (← same_parts _ _ is, back q refl) (sym (append_assoc head (46 ∷ q.0) (46 ∷ q.1)))

by_head : (o : Option (List ℕ × List ℕ)) (text : List ℕ) (p : PartTexts)
    → ((q : List ℕ × List ℕ) → o ≡ Some q → text ≡ q.0 ++ 46 ∷ q.1)
    → option_and_then parts_behind o ≡ Some p → text ≡ signed_text p.head p.claims ++ 46 ∷ p.signature
by_head None text p back is = absurd (cc)
by_head (Some q) text p back is =
    back q refl ∙ by_rest (cut_in q.1) q.1 q.0 p (λ r found. cut_back q.1 r found) is

-- a text of three parts is these, with dots between them
pub parts_back : (text : List ℕ) (p : PartTexts) → parts_in text ≡ Some p → text ≡ signed_text p.head p.claims ++ 46 ∷ p.signature
parts_back text p is = by_head (cut_in text) text p (λ q found. cut_back text q found) is
