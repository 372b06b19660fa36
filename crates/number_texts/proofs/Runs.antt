-- Numbers of JSON are runs.
use Rattle.std.proofs.Common.{◌≡◌, ℕ, zero, suc, ◌+◌, ◌==◌, ◌||◌, Bool, true, false, cond, List, [], ◌∷◌, ◌++◌, take, drop, Option, Some, None, refl, sym, ap, subst, ◌∙◌, append_assoc, arith}
use Rattle.std.specs.Prelude.{option_and_then}
use Rattle.std.specs.List.{list_all, prefix_len}
use Rattle.std.specs.Char.{is_ascii_digit}
use Rattle.std.proofs.lemmas.List.Folds.{list_all-append}
use Rattle.json.specs.Word.{head, after_number, after_digits, after_minus, after_sign, after_whole, after_fraction, after_exponent}
use Rattle.number_texts.specs.Numbers.{ends_there, is_number}
use Rattle.number_texts.specs.Pieces.{is_run}
use Rattle.number_texts.proofs.Back.{IsRunList, has_some, is_same}

-- what was taken off the front of a text is a run
abbrev Took : List ℕ → Option (List ℕ) → Type 0
Took t None = Unit {0}
Took t (Some u) = (x : List ℕ) × (t ≡ x ++ u) × (list_all is_run x ≡ true)

all_of : (x y : List ℕ) → list_all is_run x ≡ true → list_all is_run y ≡ true → list_all is_run (x ++ y) ≡ true
all_of x y e f = rw (list_all-append is_run x y, e, f) refl

took_more : (t u : List ℕ) (o : Option (List ℕ)) → Took t (Some u) → Took u o → Took t o
took_more t u None front more = tt
took_more t u (Some v) front more = (
  front.0 ++ more.0,
  front.1 ∙ ap (λ y. front.0 ++ y) more.1 ∙ sym (append_assoc front.0 more.0 v),
  all_of front.0 more.0 front.2 more.2,
)

took_then : (t : List ℕ) (f : List ℕ → Option (List ℕ)) (o : Option (List ℕ)) → Took t o → ((u : List ℕ) → Took u (f u))
    → Took t (option_and_then f o)
took_then t f None took more = tt
took_then t f (Some u) took more = took_more t u (f u) took (more u)

took_one : (q : Bool) (t : List ℕ) → (q ≡ true → is_run (head t) ≡ true) → Took t (Some (cond q (drop 1 t) t))
took_one false t is = ([], refl, refl)
took_one true [] is =
    let e : is_run 32 ≡ true = is refl in
    absurd (cc)
took_one true (b ∷ t) is = (b ∷ [], refl, rw (is refl) refl)

is_of : (b c : ℕ) → is_run c ≡ true → (b == c) ≡ true → is_run b ≡ true
is_of b c is e = subst (λ x. is_run x ≡ true) (sym (is_same b c e)) is

digit_in : (a b c d e : Bool) → d ≡ true → (a || (b || (c || (d || e)))) ≡ true
digit_in true b c d e is = refl
digit_in false true c d e is = refl
digit_in false false true d e is = refl
digit_in false false false d e is = rw is refl

digit_runs : (b : ℕ) → is_ascii_digit b ≡ true → is_run b ≡ true
digit_runs b is = digit_in (b == 43) (b == 45) (b == 46) (is_ascii_digit b) ((b == 69) || (b == 101)) is

one_on : (n : ℕ) → 1 + n ≡ suc n
one_on n = omega arith

digits_on : (h : Bool) (b : ℕ) (t : List ℕ) (n : ℕ) → is_ascii_digit b ≡ h → list_all is_run (take n t) ≡ true
    → list_all is_run (take (cond h (1 + n) 0) (b ∷ t)) ≡ true
digits_on true b t n e ih = rw (one_on n, digit_runs b e) ih
digits_on false b t n e ih = refl

digits_run : (t : List ℕ) → list_all is_run (take (prefix_len is_ascii_digit t) t) ≡ true
digits_run [] = refl
digits_run (b ∷ t) = digits_on (is_ascii_digit b) b t (prefix_len is_ascii_digit t) refl (digits_run t)

parts : (n : ℕ) (t : List ℕ) → t ≡ take n t ++ drop n t
parts zero t = refl
parts (suc n) [] = refl
parts (suc n) (b ∷ t) = ap (λ x. b ∷ x) (parts n t)

took_by : (q : Bool) (n : ℕ) (t : List ℕ) → list_all is_run (take n t) ≡ true → Took t (cond q None (Some (drop n t)))
took_by true n t all = tt
took_by false n t all = (take n t, parts n t, all)

took_digits : (t : List ℕ) → Took t (after_digits t)
took_digits t = took_by (prefix_len is_ascii_digit t == 0) (prefix_len is_ascii_digit t) t (digits_run t)

took_minus : (t : List ℕ) → Took t (Some (after_minus t))
took_minus t = took_one (head t == 45) t (is_of (head t) 45 refl)

either : (a b : Bool) (c : ℕ) → (a || b) ≡ true → (a ≡ true → is_run c ≡ true) → (b ≡ true → is_run c ≡ true) → is_run c ≡ true
either true b c is l r = l refl
either false b c is l r = r is

sign_runs : (b : ℕ) → ((b == 45) || (b == 43)) ≡ true → is_run b ≡ true
sign_runs b is = either (b == 45) (b == 43) b is (is_of b 45 refl) (is_of b 43 refl)

letter_runs : (b : ℕ) → ((b == 101) || (b == 69)) ≡ true → is_run b ≡ true
letter_runs b is = either (b == 101) (b == 69) b is (is_of b 101 refl) (is_of b 69 refl)

took_sign : (t : List ℕ) → Took t (Some (after_sign t))
took_sign t = took_one ((head t == 45) || (head t == 43)) t (sign_runs (head t))

-- one byte, and then digits
took_both : (q : Bool) (t : List ℕ) (o : Option (List ℕ)) → (q ≡ true → is_run (head t) ≡ true) → Took (drop 1 t) o
    → Took t (cond q o (Some t))
took_both true t o is more = took_more t (drop 1 t) o (took_one true t is) more
took_both false t o is more = ([], refl, refl)

took_whole_by : (q : Bool) (t : List ℕ) → (q ≡ true → is_run (head t) ≡ true) → Took t (cond q (Some (drop 1 t)) (after_digits t))
took_whole_by true t is = took_one true t is
took_whole_by false t is = took_digits t

took_whole : (t : List ℕ) → Took t (after_whole t)
took_whole t = took_whole_by (head t == 48) t (is_of (head t) 48 refl)

took_fraction : (t : List ℕ) → Took t (after_fraction t)
took_fraction t = took_both (head t == 46) t (after_digits (drop 1 t)) (is_of (head t) 46 refl) (took_digits (drop 1 t))

took_exponent : (t : List ℕ) → Took t (after_exponent t)
took_exponent t =
    let u = drop 1 t in
    took_both ((head t == 101) || (head t == 69)) t (after_digits (after_sign u)) (letter_runs (head t))
    (took_more u (after_sign u) (after_digits (after_sign u)) (took_sign u) (took_digits (after_sign u)))

took_number : (t : List ℕ) → Took t (after_number t)
unfolding after_number
took_number t =
    took_then t after_exponent (option_and_then after_fraction (after_whole (after_minus t)))
    (took_then t after_fraction (after_whole (after_minus t))
    (took_more t (after_minus t) (after_whole (after_minus t)) (took_minus t) (took_whole (after_minus t))) took_fraction) took_exponent

whole_of : (t : List ℕ) (o : Option (List ℕ)) → Took t o → ends_there o ≡ true → list_all is_run t ≡ true
whole_of t None took is = absurd (cc)
whole_of t (Some []) took is = subst (λ y. list_all is_run y ≡ true) (sym took.1) (all_of took.0 [] took.2 refl)
whole_of t (Some (b ∷ u)) took is = absurd (cc)

some_of : (t : List ℕ) → is_number t ≡ true → has_some t ≡ true
unfolding after_number
some_of [] is =
    let never : false ≡ true = is in
    absurd (cc)
some_of (b ∷ t) is = refl

pub number_runs : (t : List ℕ) → is_number t ≡ true → IsRunList t
number_runs t is = (whole_of t (after_number t) (took_number t) is, some_of t is)
