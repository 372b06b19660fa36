-- Where a colon comes first, but for white space.
use Rattle.std.proofs.Common.{◌≡◌, ℕ, zero, suc, ◌==◌, ◌||◌, ◌+◌, ◌≤◌, Bool, true, false, cond, List, [], ◌∷◌, ◌++◌, get_or, length, nat_lt, if◌then◌else◌, refl, sym, ap, subst, ◌∙◌, arith}
use Rattle.std.specs.List.{prefix_len}
use Rattle.std.proofs.lemmas.Bool.Decides.{nat_tests}
use Rattle.json.specs.Word.{is_space}
use Rattle.number_texts.specs.Pieces.{quoted, run, other, plain, inside, escaped, running, is_run, colon_first, scan}
use Rattle.number_texts.proofs.Back.{is_same}

no_colon_by : (q k : Bool) (t : List ℕ) (b : ℕ) (bs : List ℕ) → colon_first (scan (inside (t ++ b ∷ [])) bs) ≡ false
    → colon_first (scan (escaped (t ++ b ∷ [])) bs) ≡ false
    → colon_first (if q then quoted t ∷ scan plain bs else if k then scan (escaped (t ++ b ∷ [])) bs else scan (inside (t ++ b ∷ [])) bs) ≡ false
no_colon_by true k t b bs ins es = refl
no_colon_by false true t b bs ins es = es
no_colon_by false false t b bs ins es = ins

mutual
  no_colon_inside : (t s : List ℕ) → colon_first (scan (inside t) s) ≡ false
  no_colon_inside t [] = refl
  no_colon_inside t (b ∷ bs) = no_colon_by (b == 34) (b == 92) t b bs (no_colon_inside (t ++ b ∷ []) bs) (no_colon_escaped (t ++ b ∷ []) bs)

  no_colon_escaped : (t s : List ℕ) → colon_first (scan (escaped t) s) ≡ false
  no_colon_escaped t [] = refl
  no_colon_escaped t (b ∷ bs) = no_colon_inside (t ++ b ∷ []) bs

no_colon_in_run : (q k : Bool) (r : List ℕ) (b : ℕ) (bs : List ℕ) → colon_first (scan (running (r ++ b ∷ [])) bs) ≡ false
    → colon_first (if q then run r ∷ scan (inside []) bs else if k then scan (running (r ++ b ∷ [])) bs else run r ∷ other b ∷ scan plain bs) ≡ false
no_colon_in_run true k r b bs rs = refl
no_colon_in_run false true r b bs rs = rs
no_colon_in_run false false r b bs rs = refl

no_colon_running : (r s : List ℕ) → colon_first (scan (running r) s) ≡ false
no_colon_running r [] = refl
no_colon_running r (b ∷ bs) = no_colon_in_run (b == 34) (is_run b) r b bs (no_colon_running (r ++ b ∷ []) bs)

-- a byte that is neither a colon nor one of a text or a run
abbrev IsBetween : ℕ → Type 0
IsBetween b = ((b == 34) ≡ false) × (is_run b ≡ false) × ((b == 58) ≡ false)

space_by : (p q r s : Bool) (b : ℕ) → (b == 32) ≡ p → (b == 9) ≡ q → (b == 10) ≡ r → (b == 13) ≡ s
    → (((p || q) || r) || s) ≡ true → IsBetween b
space_by true q r s b e f g h is = subst IsBetween (sym (is_same b 32 e)) (refl, refl, refl)
space_by false true r s b e f g h is = subst IsBetween (sym (is_same b 9 f)) (refl, refl, refl)
space_by false false true s b e f g h is = subst IsBetween (sym (is_same b 10 g)) (refl, refl, refl)
space_by false false false true b e f g h is = subst IsBetween (sym (is_same b 13 h)) (refl, refl, refl)
space_by false false false false b e f g h is = absurd (cc)

space_is_between : (b : ℕ) → is_space b ≡ true → IsBetween b
space_is_between b is = space_by (b == 32) (b == 9) (b == 10) (b == 13) b refl refl refl refl is

abbrev IsOtherByte : ℕ → Type 0
IsOtherByte b = ((b == 34) ≡ false) × (is_run b ≡ false)

colon_is_other : (b : ℕ) → (b == 58) ≡ true → IsOtherByte b
colon_is_other b is = subst IsOtherByte (sym (is_same b 58 is)) (refl, refl)

no_space : (c q k : Bool) (b : ℕ) (bs : List ℕ) → (b == 58) ≡ c → (b == 34) ≡ q → is_run b ≡ k → is_space b ≡ false
    → c ≡ colon_first (if q then scan (inside []) bs else if k then scan (running (b ∷ [])) bs else other b ∷ scan plain bs)
no_space true true k b bs e f g is =
    let none : (b == 34) ≡ false = (colon_is_other b e).0 in
    absurd (cc)
no_space true false true b bs e f g is =
    let none : is_run b ≡ false = (colon_is_other b e).1 in
    absurd (cc)
no_space true false false b bs e f g is = rw e refl
no_space false true k b bs e f g is = sym (no_colon_inside [] bs)
no_space false false true b bs e f g is = sym (no_colon_running (b ∷ []) bs)
no_space false false false b bs e f g is = rw (e, is) refl

one_more : (n : ℕ) → 1 + n ≡ suc n
one_more n = omega arith

one_by : (w : Bool) (b : ℕ) (bs : List ℕ) → is_space b ≡ w
    → (get_or bs (prefix_len is_space bs) 0 == 58) ≡ colon_first (scan plain bs)
    → (get_or (b ∷ bs) (cond w (1 + prefix_len is_space bs) 0) 0 == 58) ≡ colon_first (scan plain (b ∷ bs))
one_by true b bs e ih =
    let is : IsBetween b = space_is_between b e in
    rw (one_more (prefix_len is_space bs), is.0, is.1, is.2, e) ih
one_by false b bs e ih = no_space (b == 58) (b == 34) (is_run b) b bs refl refl refl e

pub colon_read : (s : List ℕ) → (get_or s (prefix_len is_space s) 0 == 58) ≡ colon_first (scan plain s)
colon_read [] = refl
colon_read (b ∷ bs) = one_by (is_space b) b bs refl (colon_read bs)

past_end : (s : List ℕ) (n : ℕ) → length s ≤ n → get_or s n 0 ≡ 0
past_end [] n e = refl
past_end (b ∷ bs) zero e = absurd (omega (arith, e))
past_end (b ∷ bs) (suc n) e = past_end bs n (omega (arith, e))

not_below : (n m : ℕ) → m ≤ n → nat_lt n m ≡ false
not_below n m past = grind (arith, nat_tests, past)

-- nothing stands behind the white space
pub colon_past : (b s : List ℕ) (n : ℕ) → b ≡ s → n ≡ prefix_len is_space b → length b ≤ n → nat_lt n (length b) ≡ colon_first (scan plain s)
colon_past b s n same e past =
    let ends : (get_or b n 0 == 58) ≡ colon_first (scan plain s) = rw (e, same) (colon_read s) in
    not_below n (length b) past ∙ ap (λ x. x == 58) (sym (past_end b n past)) ∙ ends
