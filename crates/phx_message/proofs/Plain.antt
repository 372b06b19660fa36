-- What JSON writes as it is.
use Rattle.std.proofs.Common.{◌≡◌, ◌≢◌, ◌≤◌, ℕ, List, [], ◌∷◌, ◌++◌, ◌==◌, nat_lt, false, refl, ap, sym, ◌∙◌, subst, arith, drop, get_or, length, ◌<◌, ◌+◌}
use Rattle.std.proofs.lemmas.List.{drop_more}
use Rattle.std.proofs.lemmas.Bool.Decides.{nat_tests}
use Rattle.json.specs.Print.{escape_byte, escape, quoted}

plain_byte : (b : ℕ) → 32 ≤ b → b ≢ 34 → b ≢ 92 → escape_byte b ≡ b ∷ []
unfolding escape_byte
plain_byte b low quote slash =
    let f34 : (b == 34) ≡ false = grind (arith, nat_tests) in
    let f92 : (b == 92) ≡ false = grind (arith, nat_tests) in
    let f8 : (b == 8) ≡ false = grind (arith, nat_tests) in
    let f12 : (b == 12) ≡ false = grind (arith, nat_tests) in
    let f10 : (b == 10) ≡ false = grind (arith, nat_tests) in
    let f13 : (b == 13) ≡ false = grind (arith, nat_tests) in
    let f9 : (b == 9) ≡ false = grind (arith, nat_tests) in
    let f32 : nat_lt b 32 ≡ false = grind (arith, nat_tests) in
    rw (f34, f92, f8, f12, f10, f13, f9, f32) refl

plain_more : (b : ℕ) (bs : List ℕ) → 32 ≤ b → b ≢ 34 → b ≢ 92 → escape bs ≡ bs → escape (b ∷ bs) ≡ b ∷ bs
plain_more b bs low quote slash rest = ap (λ z. z ++ escape bs) (plain_byte b low quote slash) ∙ ap (λ z. b ∷ z) rest

plain_at : (bs : List ℕ) (i : ℕ) → i < length bs → 32 ≤ get_or bs i 0 → get_or bs i 0 ≢ 34 → get_or bs i 0 ≢ 92 → escape (drop (i + 1) bs) ≡ drop (i + 1) bs → escape (drop i bs) ≡ drop i bs
plain_at bs i l low quote slash rest =
    let here : drop i bs ≡ get_or bs i 0 ∷ drop (i + 1) bs = drop_more bs i 0 l in
    ap escape here ∙ plain_more (get_or bs i 0) (drop (i + 1) bs) low quote slash rest ∙ sym here

-- one byte more, read from the text's bytes
pub plain_on : (text bytes : List ℕ) (i : ℕ) → bytes ≡ text → i < length bytes → 32 ≤ get_or bytes i 0 → get_or bytes i 0 ≢ 34 → get_or bytes i 0 ≢ 92
    → escape (drop (i + 1) text) ≡ drop (i + 1) text → escape (drop i text) ≡ drop i text
plain_on text bytes i same l low quote slash rest =
    subst (λ z. escape (drop i z) ≡ drop i z) same (plain_at bytes i l low quote slash (subst (λ z. escape (drop (i + 1) z) ≡ drop (i + 1) z) (sym same) rest))

pub plain_quoted : (s : List ℕ) → escape s ≡ s → quoted s ≡ 34 ∷ (s ++ 34 ∷ [])
plain_quoted s h = ap (λ z. 34 ∷ (z ++ 34 ∷ [])) h
