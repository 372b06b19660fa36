-- How far the parts of a text reach.
use Rattle.std.proofs.Common.{◌≡◌, ℕ, zero, suc, ◌+◌, ◌-◌, ◌<◌, ◌≤◌, ◌==◌, ◌&&◌, not, Bool, true, false, cond, List, [], ◌∷◌, ◌++◌, map, length, take, drop, get_or, Option, Some, None, IfSome, option_map, if◌then◌else◌, IsUtf8, refl, sym, ap, subst, ◌∙◌, append-nil, inl, inr, arith, add-one}
use Rattle.std.specs.List.{prefix_len}
use Rattle.std.specs.Str.{IsCharBoundary}
use Rattle.std.proofs.lemmas.Bool.{cases_lt}
use Rattle.std.proofs.lemmas.Bool.Decides.{nat_tests}
use Rattle.std.proofs.lemmas.List.{drop_more, length-drop}
use Rattle.std.proofs.lemmas.List.Sums.{prefix_len-le-length, prefix_len_passes, prefix_len_stops}
use Rattle.std.proofs.lemmas.Str.{IsCharBoundary-start, IsCharBoundary-end, IsCharBoundary-before_ascii, IsCharBoundary-after_ascii}
use Rattle.number_texts.specs.Pieces.{Piece, quoted, run, other, open_quote, plain, inside, escaped, running, is_run, is_other, scan}
use Rattle.number_texts.specs.Changes.{close_at, CutsAt}
use Rattle.number_texts.proofs.Back.{is_same, push, run_not_34}

one_on : (n : ℕ) → 1 + n ≡ suc n
one_on n = omega arith

-- ---- runs

run_step : (h k : Bool) (q : List ℕ) (b : ℕ) (bs : List ℕ) (n : ℕ) → (b == 34) ≡ h → is_run b ≡ k
    → scan (running (q ++ b ∷ [])) bs ≡ run ((q ++ b ∷ []) ++ take n bs) ∷ scan plain (drop n bs)
    → (if h then run q ∷ scan (inside []) bs else if k then scan (running (q ++ b ∷ [])) bs else run q ∷ other b ∷ scan plain bs)
    ≡ run (q ++ take (cond k (1 + n) 0) (b ∷ bs)) ∷ scan plain (drop (cond k (1 + n) 0) (b ∷ bs))
run_step true true q b bs n e f ih =
    let no : (b == 34) ≡ false = run_not_34 b f in
    absurd (cc)
run_step true false q b bs n e f ih = rw (append-nil q, e) refl
run_step false true q b bs n e f ih = ih ∙ rw (one_on n, push q b (take n bs)) refl
run_step false false q b bs n e f ih = rw (append-nil q, e, f) refl

run_goes : (q s : List ℕ) → scan (running q) s ≡ run (q ++ take (prefix_len is_run s) s) ∷ scan plain (drop (prefix_len is_run s) s)
run_goes q [] = rw (append-nil q) refl
run_goes q (b ∷ bs) = run_step (b == 34) (is_run b) q b bs (prefix_len is_run bs) refl refl (run_goes (q ++ b ∷ []) bs)

-- a text that begins with a byte of a run
pub run_first : (b : ℕ) (bs : List ℕ) → is_run b ≡ true
    → scan plain (b ∷ bs) ≡ run (take (prefix_len is_run (b ∷ bs)) (b ∷ bs)) ∷ scan plain (drop (prefix_len is_run (b ∷ bs)) (b ∷ bs))
run_first b bs is = rw (run_not_34 b is, is, one_on (prefix_len is_run bs)) (run_goes (b ∷ []) bs)

-- ---- what is between

between_step : (h k : Bool) (b : ℕ) (bs : List ℕ) (n : ℕ) → (b == 34) ≡ h → is_run b ≡ k
    → scan plain bs ≡ map other (take n bs) ++ scan plain (drop n bs)
    → (if h then scan (inside []) bs else if k then scan (running (b ∷ [])) bs else other b ∷ scan plain bs)
    ≡ map other (take (cond (not h && not k) (1 + n) 0) (b ∷ bs)) ++ scan plain (drop (cond (not h && not k) (1 + n) 0) (b ∷ bs))
between_step true k b bs n e f ih = rw e refl
between_step false true b bs n e f ih = rw (e, f) refl
between_step false false b bs n e f ih = rw (one_on n) (ap (λ x. other b ∷ x) ih)

pub between_goes : (s : List ℕ) → scan plain s ≡ map other (take (prefix_len is_other s) s) ++ scan plain (drop (prefix_len is_other s) s)
between_goes [] = refl
between_goes (b ∷ bs) = between_step (b == 34) (is_run b) b bs (prefix_len is_other bs) refl refl (between_goes bs)

-- ---- quoted texts

abbrev pub closed : List ℕ → List ℕ → Option ℕ → List Piece
closed t s None = open_quote (t ++ s) ∷ []
closed t s (Some k) = quoted (t ++ take k s) ∷ scan plain (drop (suc k) s)

closed_on : (t : List ℕ) (b : ℕ) (bs : List ℕ) (o : Option ℕ) → closed (t ++ b ∷ []) bs o ≡ closed t (b ∷ bs) (option_map suc o)
closed_on t b bs None = rw (push t b bs) refl
closed_on t b bs (Some k) = rw (push t b (take k bs)) refl

inside_step : (h k : Bool) (t : List ℕ) (b : ℕ) (bs : List ℕ)
    → scan (inside (t ++ b ∷ [])) bs ≡ closed (t ++ b ∷ []) bs (close_at false bs)
    → scan (escaped (t ++ b ∷ [])) bs ≡ closed (t ++ b ∷ []) bs (close_at true bs)
    → (if h then quoted t ∷ scan plain bs else if k then scan (escaped (t ++ b ∷ [])) bs else scan (inside (t ++ b ∷ [])) bs)
    ≡ closed t (b ∷ bs) (cond h (Some 0) (option_map suc (close_at k bs)))
inside_step true k t b bs ins es = rw (append-nil t) refl
inside_step false true t b bs ins es = es ∙ closed_on t b bs (close_at true bs)
inside_step false false t b bs ins es = ins ∙ closed_on t b bs (close_at false bs)

mutual
  pub inside_closes : (t s : List ℕ) → scan (inside t) s ≡ closed t s (close_at false s)
  inside_closes t [] = rw (append-nil t) refl
  inside_closes t (b ∷ bs) = inside_step (b == 34) (b == 92) t b bs (inside_closes (t ++ b ∷ []) bs) (escaped_closes (t ++ b ∷ []) bs)

  escaped_closes : (t s : List ℕ) → scan (escaped t) s ≡ closed t s (close_at true s)
  escaped_closes t [] = rw (append-nil t) refl
  escaped_closes t (b ∷ bs) = inside_closes (t ++ b ∷ []) bs ∙ closed_on t b bs (close_at false bs)

abbrev IsQuoteAt : List ℕ → Option ℕ → Type 0
IsQuoteAt s None = Unit {0}
IsQuoteAt s (Some k) = (k < length s) × (get_or s k 0 ≡ 34)

quote_on : (b : ℕ) (bs : List ℕ) (o : Option ℕ) → IsQuoteAt bs o → IsQuoteAt (b ∷ bs) (option_map suc o)
quote_on b bs None is = tt
quote_on b bs (Some k) is = (omega (arith, is.0), is.1)

quote_step : (h q : Bool) (b : ℕ) (bs : List ℕ) (o : Option ℕ) → (b == 34) ≡ q → h ≡ q → IsQuoteAt bs o
    → IsQuoteAt (b ∷ bs) (cond h (Some 0) (option_map suc o))
quote_step true true b bs o e f is = (omega arith, is_same b 34 e)
quote_step true false b bs o e f is = absurd (cc)
quote_step false q b bs o e f is = quote_on b bs o is

pub is_quote_at : (e : Bool) (s : List ℕ) → IsQuoteAt s (close_at e s)
is_quote_at e [] = tt
is_quote_at true (b ∷ bs) = quote_on b bs (close_at false bs) (is_quote_at false bs)
is_quote_at false (b ∷ bs) = quote_step (b == 34) (b == 34) b bs (close_at (b == 92) bs) refl refl (is_quote_at (b == 92) bs)

-- a reader of a quoted text that stands at this byte of it
moved : (at : ℕ) (o : Option ℕ) → option_map (λ k. at + k) (option_map suc o) ≡ option_map (λ k. (at + 1) + k) o
moved at None = refl
moved at (Some k) = ap Some (omega arith)

pub close_here : (e : Bool) (s : List ℕ) (at : ℕ) → at < length s → (not e && (get_or s at 0 == 34)) ≡ true
    → Some at ≡ option_map (λ k. at + k) (close_at e (drop at s))
close_here e s at within is = rw (drop_more s at 0 within, is) (ap Some (omega arith))

pub close_next : (e : Bool) (s : List ℕ) (at : ℕ) → at < length s → (not e && (get_or s at 0 == 34)) ≡ false
    → option_map (λ k. at + k) (close_at e (drop at s)) ≡ option_map (λ k. (at + 1) + k) (close_at (not e && (get_or s at 0 == 92)) (drop (at + 1) s))
close_next e s at within is = rw (drop_more s at 0 within, is) (moved at (close_at (not e && (get_or s at 0 == 92)) (drop (at + 1) s)))

-- ---- parts end where characters do

after_ascii_run : (p : ℕ → Bool) (bs : List ℕ) (n : ℕ) → prefix_len p bs ≡ n → IsUtf8 bs → ((c : ℕ) → p c ≡ true → c < 128) → IsCharBoundary bs n
after_ascii_run p bs zero e utf8 ascii = IsCharBoundary-start bs utf8
after_ascii_run p bs (suc k) e utf8 ascii =
    rw (← add-one) (IsCharBoundary-after_ascii bs k utf8 (omega (arith, prefix_len-le-length p bs)) (ascii _ (prefix_len_passes p bs k 0 (omega arith))))

run_is_ascii : (c : ℕ) → is_run c ≡ true → c < 128
run_is_ascii c e = grind (arith, nat_tests)

pub run_boundary : (bs : List ℕ) → IsUtf8 bs → IsCharBoundary bs (prefix_len is_run bs)
run_boundary bs utf8 = after_ascii_run is_run bs _ refl utf8 run_is_ascii

stops_at_ascii : (c : ℕ) → is_other c ≡ false → c < 128
stops_at_ascii c e = grind (arith, nat_tests)

pub between_boundary : (bs : List ℕ) → IsCharBoundary bs (prefix_len is_other bs)
between_boundary bs =
    elim (cases_lt (prefix_len is_other bs) (length bs)) [
      | inl within ↦ IsCharBoundary-before_ascii bs _ within (stops_at_ascii _ (prefix_len_stops is_other bs 0 within))
      | inr past ↦ subst (IsCharBoundary bs) (omega (arith, prefix_len-le-length is_other bs)) (IsCharBoundary-end bs)
    ]

-- what `CutsAt` asks, at a quote
cuts_at : (s : List ℕ) (k : ℕ) → IsUtf8 s → (k < length s) × (get_or s k 0 ≡ 34) → CutsAt s k
cuts_at s k utf8 is =
    (is.0, IsCharBoundary-before_ascii s k is.0 (omega (arith, is.1)), IsCharBoundary-after_ascii s k utf8 is.0 (omega (arith, is.1)))

cuts_if : (s : List ℕ) (o : Option ℕ) → IsUtf8 s → IsQuoteAt s o → IfSome o (CutsAt s)
cuts_if s None utf8 is = tt
cuts_if s (Some k) utf8 is = cuts_at s k utf8 is

pub quote_cuts : (s : List ℕ) → IsUtf8 s → IfSome (close_at false s) (CutsAt s)
quote_cuts s utf8 = cuts_if s (close_at false s) utf8 (is_quote_at false s)

-- ---- parts as they are split off

shorter : (n : ℕ) (s : List ℕ) → 0 < n → n ≤ length s → length (drop n s) < length s
shorter n s some within = omega (arith, length-drop n s)

pub run_split : (s : List ℕ) → 0 < length s → is_run (get_or s 0 0) ≡ true
    → (scan plain s ≡ run (take (prefix_len is_run s) s) ∷ scan plain (drop (prefix_len is_run s) s))
    × (length (drop (prefix_len is_run s) s) < length s)
run_split [] some is = absurd (omega arith)
run_split (b ∷ bs) some is =
    let more : 0 < prefix_len is_run (b ∷ bs) = rw is (omega arith) in
    (run_first b bs is, shorter (prefix_len is_run (b ∷ bs)) (b ∷ bs) more (prefix_len-le-length is_run (b ∷ bs)))

pub between_split : (s : List ℕ) → 0 < length s → (get_or s 0 0 == 34) ≡ false → is_run (get_or s 0 0) ≡ false
    → (scan plain s ≡ map other (take (prefix_len is_other s) s) ++ scan plain (drop (prefix_len is_other s) s))
    × (length (drop (prefix_len is_other s) s) < length s)
between_split [] some q r = absurd (omega arith)
between_split (b ∷ bs) some q r =
    let more : 0 < prefix_len is_other (b ∷ bs) = rw (q, r) (omega arith) in
    (between_goes (b ∷ bs), shorter (prefix_len is_other (b ∷ bs)) (b ∷ bs) more (prefix_len-le-length is_other (b ∷ bs)))

-- behind the first quote
pub quoted_split : (s : List ℕ) (k : ℕ) → close_at false s ≡ Some k → k < length s
    → (scan plain (34 ∷ s) ≡ quoted (take k s) ∷ scan plain (drop (k + 1) s)) × (length (drop (k + 1) s) < length (34 ∷ s))
quoted_split s k e within =
    let next : suc k ≡ k + 1 = omega arith in
    (inside_closes [] s ∙ rw (e, next) refl, omega (arith, length-drop (k + 1) s))

pub open_split : (s : List ℕ) → close_at false s ≡ None → scan plain (34 ∷ s) ≡ open_quote s ∷ []
open_split s e = inside_closes [] s ∙ rw e refl

pub quote_of : (s : List ℕ) → 0 < length s → get_or s 0 0 ≡ 34 → s ≡ 34 ∷ drop 1 s
quote_of [] some e = absurd (omega arith)
quote_of (b ∷ bs) some e = rw e refl

-- the first byte is a quote
pub first_cuts : (s r : List ℕ) → IsUtf8 s → 0 < length s → r ≡ s → get_or r 0 0 ≡ 34 → IsCharBoundary s 1
first_cuts s r utf8 some same is =
    let byte : get_or s 0 0 ≡ 34 = ap (λ l. get_or l 0 0) (sym same) ∙ is in
    IsCharBoundary-after_ascii s 0 utf8 some (omega (arith, byte))

pub front : (s : List ℕ) (k : ℕ) → take (k - 0) s ≡ take k s
front s k = ap (λ n. take n s) (omega arith)
