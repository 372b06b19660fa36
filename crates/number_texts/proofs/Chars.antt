-- What may stand between quotes is read as it is.
use Rattle.std.proofs.Common.{◌≡◌, ℕ, zero, suc, ◌==◌, ◌&&◌, not, nat_le, Bool, true, false, List, [], ◌∷◌, ◌++◌, drop, if◌then◌else◌, refl, sym, ap, subst, ◌∙◌, append-nil}
use Rattle.number_texts.specs.Pieces.{State, quoted, plain, inside, escaped, scan}
use Rattle.number_texts.specs.Marks.{mark, has_mark}
use Rattle.number_texts.specs.Written.{Within, at_character, behind_backslash, at_hex, are_chars, is_hex, is_short, is_string}
use Rattle.number_texts.proofs.Back.{IsContent, both, is_same, push}
use Rattle.number_texts.proofs.Found.{begins}

abbrev at : Within → List ℕ → State
at at_character t = inside t
at behind_backslash t = escaped t
at (at_hex n) t = inside t

-- the rest of a string is read to its quote
abbrev Ends : State → List ℕ → List ℕ → List ℕ → Type 0
Ends st t rest whole = scan st (t ++ 34 ∷ rest) ≡ quoted whole ∷ scan plain rest

pushed : (st : State) (front t rest : List ℕ) (b : ℕ) → Ends st t rest ((front ++ b ∷ []) ++ t) → Ends st t rest (front ++ b ∷ t)
pushed st front t rest b e = e ∙ ap (λ x. quoted x ∷ scan plain rest) (push front b t)

differ : (b m n : ℕ) → (b == m) ≡ true → (m == n) ≡ false → (b == n) ≡ false
differ b m n e none = subst (λ x. (x == n) ≡ false) (sym (is_same b m e)) none

at_char : (k q l : Bool) (b : ℕ) (front t rest : List ℕ) → (b == 92) ≡ k → (b == 34) ≡ q
    → (if k then are_chars behind_backslash t else (l && not q) && are_chars at_character t) ≡ true
    → (are_chars behind_backslash t ≡ true → Ends (escaped (front ++ b ∷ [])) t rest (front ++ b ∷ t))
    → (are_chars at_character t ≡ true → Ends (inside (front ++ b ∷ [])) t rest (front ++ b ∷ t))
    → (if q then quoted front ∷ scan plain (t ++ 34 ∷ rest)
    else if k then scan (escaped (front ++ b ∷ [])) (t ++ 34 ∷ rest)
    else scan (inside (front ++ b ∷ [])) (t ++ 34 ∷ rest))
    ≡ quoted (front ++ b ∷ t) ∷ scan plain rest
at_char true true l b front t rest e f is es ins =
    let none : (b == 34) ≡ false = differ b 92 34 e refl in
    absurd (cc)
at_char true false l b front t rest e f is es ins = es is
at_char false true l b front t rest e f is es ins =
    let none : (l && false) ≡ true = (both (l && false) (are_chars at_character t) is).0 in
    let never : false ≡ true = (both l false none).1 in
    absurd (cc)
at_char false false l b front t rest e f is es ins = ins (both (l && true) (are_chars at_character t) is).1

behind_char : (u : Bool) (b : ℕ) (front t rest : List ℕ)
    → (if u then are_chars (at_hex 3) t else is_short b && are_chars at_character t) ≡ true
    → (are_chars (at_hex 3) t ≡ true → Ends (inside (front ++ b ∷ [])) t rest (front ++ b ∷ t))
    → (are_chars at_character t ≡ true → Ends (inside (front ++ b ∷ [])) t rest (front ++ b ∷ t))
    → Ends (inside (front ++ b ∷ [])) t rest (front ++ b ∷ t)
behind_char true b front t rest is hex ins = hex is
behind_char false b front t rest is hex ins = ins (both (is_short b) (are_chars at_character t) is).1

-- a digit of an escape is neither a quote nor a backslash
not_hex : (t : Bool) (b n : ℕ) → (b == n) ≡ t → is_hex n ≡ false → is_hex b ≡ true → t ≡ false
not_hex false b n e none is = refl
not_hex true b n e none is =
    let there : is_hex n ≡ true = subst (λ x. is_hex x ≡ true) (is_same b n e) is in
    absurd (cc)

at_digit : (b : ℕ) (front t rest : List ℕ) → is_hex b ≡ true
    → Ends (inside (front ++ b ∷ [])) t rest (front ++ b ∷ t) → Ends (inside front) (b ∷ t) rest (front ++ b ∷ t)
at_digit b front t rest is e = rw (not_hex (b == 34) b 34 refl refl is, not_hex (b == 92) b 92 refl refl is) e

chars_end : (w : Within) (t : List ℕ) → are_chars w t ≡ true → (front rest : List ℕ) → Ends (at w front) t rest (front ++ t)
chars_end at_character [] is front rest = rw (append-nil front) refl
chars_end at_character (b ∷ t) is front rest =
    at_char (b == 92) (b == 34) (nat_le 32 b) b front t rest refl refl is
    (λ es. pushed (escaped (front ++ b ∷ [])) front t rest b (chars_end behind_backslash t es (front ++ b ∷ []) rest))
    (λ ins. pushed (inside (front ++ b ∷ [])) front t rest b (chars_end at_character t ins (front ++ b ∷ []) rest))
chars_end behind_backslash [] is front rest = absurd (cc)
chars_end behind_backslash (b ∷ t) is front rest =
    behind_char (b == 117) b front t rest is
    (λ hex. pushed (inside (front ++ b ∷ [])) front t rest b (chars_end (at_hex 3) t hex (front ++ b ∷ []) rest))
    (λ ins. pushed (inside (front ++ b ∷ [])) front t rest b (chars_end at_character t ins (front ++ b ∷ []) rest))
chars_end (at_hex zero) [] is front rest = absurd (cc)
chars_end (at_hex (suc n)) [] is front rest = absurd (cc)
chars_end (at_hex zero) (b ∷ t) is front rest =
    let parts = both (is_hex b) (are_chars at_character t) is in
    at_digit b front t rest parts.0 (pushed (inside (front ++ b ∷ [])) front t rest b (chars_end at_character t parts.1 (front ++ b ∷ []) rest))
chars_end (at_hex (suc n)) (b ∷ t) is front rest =
    let parts = both (is_hex b) (are_chars (at_hex n) t) is in
    at_digit b front t rest parts.0 (pushed (inside (front ++ b ∷ [])) front t rest b (chars_end (at_hex n) t parts.1 (front ++ b ∷ []) rest))

pub string_content : (t : List ℕ) → is_string t ≡ true → IsContent t
string_content t is = chars_end at_character t is

-- behind the mark a string goes on, and it begins anew with one more
pub string_behind : (t : List ℕ) → has_mark t ≡ true → is_string t ≡ true → is_string (drop 6 t) ≡ true
string_behind t e is = subst (λ x. is_string x ≡ true) (begins mark t e) is
