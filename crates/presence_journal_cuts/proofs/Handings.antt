-- Chains with one count more, and those that an update hands on.
use Rattle.std.proofs.Common.{◌≡◌, ℕ, zero, suc, ◌-◌, ◌<◌, ◌≤◌, Bool, true, false, cond, ◌&&◌, ◌||◌, nat_eq, nat_le, nat_lt, List, [], ◌∷◌, ◌++◌, length, get_or, set, refl, sym, ◌∙◌, ap, subst, arith, inl, inr, eqb-true, eq-eqb, ltb-true}
use Rattle.std.specs.Prelude.{◌⊎◌}
use Rattle.std.proofs.lemmas.Bool.{false_from_ne_true}
use Rattle.std.proofs.lemmas.Bool.Decides.{nat_tests}
use Rattle.dot_context.specs.Runs.{in_run, holds, AreLong}
use Rattle.presence_journal_cuts.specs.declared.chain.TheConstants.{MAX_CHAIN_RUNS}
use Rattle.presence_journal_cuts.specs.Handing.{run_between, grown, handed}

abbrev Runs : Type 0
Runs = List (ℕ × ℕ)

-- ---- a run between two counts

pub between : (low high n : ℕ) → holds (run_between low high) n ≡ (nat_lt low n && nat_le n high)
between low high n = grind (arith, nat_tests)

pub long_between : (low high : ℕ) → AreLong (run_between low high)
long_between low high = go (nat_lt low high) refl
  where
    go : (b : Bool) → nat_lt low high ≡ b → AreLong (cond b ((low, high) ∷ []) [])
    go true e = (ltb-true low high e, tt)
    go false e = tt

one_between : (low high : ℕ) → length (run_between low high) ≤ 1
one_between low high = go (nat_lt low high)
  where
    go : (b : Bool) → length (cond {A = Runs} b ((low, high) ∷ []) []) ≤ 1
    go true = omega arith
    go false = omega arith

-- the run of one count
one_count : (n m : ℕ) → 1 ≤ m → (nat_lt (n - 1) m && nat_le m n) ≡ nat_eq m n
one_count n m low = grind (arith, nat_tests)

pub holds_one : (n m : ℕ) → 1 ≤ m → holds (run_between (n - 1) n) m ≡ nat_eq m n
holds_one n m low = between (n - 1) n m ∙ one_count n m low

-- ---- one count more

-- there is no count 0
pub grown_none : (rs : Runs) (n : ℕ) → n ≤ 0 → grown rs n ≡ rs
grown_none [] n z = ap (λ b. cond {A = Runs} b ((n - 1, n) ∷ []) []) (off n z)
  where
    off : (n : ℕ) → n ≤ 0 → nat_lt (n - 1) n ≡ false
    off n z = grind (arith, nat_tests)
grown_none (r ∷ []) n z = (λ i. cond (no_end r.1 n z i) ((r.0, n) ∷ []) (r ∷ grown_none [] n z i))
  where
    no_end : (e n : ℕ) → n ≤ 0 → nat_eq (suc e) n ≡ false
    no_end e n z = grind (arith, nat_tests)
grown_none (r ∷ s ∷ rs) n z = ap (λ (xs : Runs). r ∷ xs) (grown_none (s ∷ rs) n z)

above : (n : ℕ) → 0 < n → run_between (n - 1) n ≡ (n - 1, n) ∷ []
above n p = ap (λ b. cond {A = Runs} b ((n - 1, n) ∷ []) []) (on n p)
  where
    on : (n : ℕ) → 0 < n → nat_lt (n - 1) n ≡ true
    on n p = grind (arith, nat_tests)

pub grown_first : (n : ℕ) → 0 < n → grown [] n ≡ [] ++ (n - 1, n) ∷ []
grown_first n p = above n p

ends_below : (e n : ℕ) → 0 < n → e ≡ n - 1 → nat_eq (suc e) n ≡ true
ends_below e n p q = grind (arith, nat_tests)

ends_apart : (e n : ℕ) → 0 < n → (e ≡ n - 1 → ⊥) → nat_eq (suc e) n ≡ false
ends_apart e n p q = false_from_ne_true (nat_eq (suc e) n) (λ f. q (omega (arith, eqb-true (suc e) n f)))

-- the last run goes on
pub grown_last : (rs : Runs) (i n : ℕ) (r : ℕ × ℕ) → suc i ≡ length rs → r ≡ get_or rs i r → 0 < n → r.1 ≡ n - 1 → set rs i (r.0, n) ≡ grown rs n
grown_last [] i n r at is p e = absurd (omega (arith, at))
grown_last (x ∷ []) zero n r at is p e =
    sym (ap (λ b. cond b ((x.0, n) ∷ []) (x ∷ run_between (n - 1) n)) (ends_below x.1 n p (ap (λ (y : ℕ × ℕ). y.1) (sym is) ∙ e)) ∙ ap (λ (y : ℕ × ℕ). (y.0, n) ∷ []) (sym is))
grown_last (x ∷ []) (suc i) n r at is p e = absurd (omega (arith, at))
grown_last (x ∷ y ∷ rs) zero n r at is p e = absurd (omega (arith, at))
grown_last (x ∷ y ∷ rs) (suc i) n r at is p e = ap (λ (xs : Runs). x ∷ xs) (grown_last (y ∷ rs) i n r (omega (arith, at)) is p e)

-- or the count comes as a run of its own
pub grown_apart : (rs : Runs) (i n : ℕ) (r : ℕ × ℕ) → suc i ≡ length rs → r ≡ get_or rs i r → 0 < n → (r.1 ≡ n - 1 → ⊥) → grown rs n ≡ rs ++ (n - 1, n) ∷ []
grown_apart [] i n r at is p e = absurd (omega (arith, at))
grown_apart (x ∷ []) zero n r at is p e =
    (λ i. cond (ends_apart x.1 n p (λ f. e (ap (λ (y : ℕ × ℕ). y.1) is ∙ f)) i) ((x.0, n) ∷ []) (x ∷ above n p i))
grown_apart (x ∷ []) (suc i) n r at is p e = absurd (omega (arith, at))
grown_apart (x ∷ y ∷ rs) zero n r at is p e = absurd (omega (arith, at))
grown_apart (x ∷ y ∷ rs) (suc i) n r at is p e = ap (λ (xs : Runs). x ∷ xs) (grown_apart (y ∷ rs) i n r (omega (arith, at)) is p e)

longer : (a b n : ℕ) → a < b → suc b ≡ n → a < n
longer a b n p e = omega (arith, p, e)

pub long_grown : (rs : Runs) (n : ℕ) → AreLong rs → AreLong (grown rs n)
long_grown [] n l = long_between (n - 1) n
long_grown (r ∷ []) n l = go (nat_eq (suc r.1) n) refl
  where
    go : (b : Bool) → nat_eq (suc r.1) n ≡ b → AreLong (cond b ((r.0, n) ∷ []) (r ∷ run_between (n - 1) n))
    go true e = (longer r.0 r.1 n l.0 (eqb-true (suc r.1) n e), tt)
    go false e = (l.0, long_between (n - 1) n)
long_grown (r ∷ s ∷ rs) n l = (l.0, long_grown (s ∷ rs) n l.1)

pub length_grown : (rs : Runs) (n : ℕ) → length (grown rs n) ≤ suc (length rs)
length_grown [] n = one_between (n - 1) n
length_grown (r ∷ []) n = go (nat_eq (suc r.1) n)
  where
    go : (b : Bool) → length (cond b ((r.0, n) ∷ []) (r ∷ run_between (n - 1) n)) ≤ 2
    go true = omega arith
    go false = omega (arith, one_between (n - 1) n)
length_grown (r ∷ s ∷ rs) n = omega (arith, length_grown (s ∷ rs) n)

run_grown : (a b c n : ℕ) → a < b → suc b ≡ c → ((nat_lt a n && nat_le n c) || false) ≡ (((nat_lt a n && nat_le n b) || false) || nat_eq n c)
run_grown a b c n p e = grind (arith, nat_tests)

grouped : (a b c : Bool) → (a || (b || c)) ≡ ((a || b) || c)
grouped true b c = refl
grouped false b c = refl

pub holds_grown : (rs : Runs) (n m : ℕ) → AreLong rs → 1 ≤ m → holds (grown rs n) m ≡ (holds rs m || nat_eq m n)
holds_grown [] n m l low = holds_one n m low
holds_grown (r ∷ []) n m l low = go (nat_eq (suc r.1) n) refl
  where
    right : (b c : Bool) → (b || c) ≡ ((b || false) || c)
    right true c = refl
    right false c = refl

    go : (b : Bool) → nat_eq (suc r.1) n ≡ b → holds (cond b ((r.0, n) ∷ []) (r ∷ run_between (n - 1) n)) m ≡ ((in_run r m || false) || nat_eq m n)
    go true e = run_grown r.0 r.1 n m l.0 (eqb-true (suc r.1) n e)
    go false e = ap (λ b. in_run r m || b) (holds_one n m low) ∙ right (in_run r m) (nat_eq m n)
holds_grown (r ∷ s ∷ rs) n m l low = ap (λ b. in_run r m || b) (holds_grown (s ∷ rs) n m l.1 low) ∙ grouped (in_run r m) (holds (s ∷ rs) m) (nat_eq m n)

-- ---- what an update hands on

pub handed_is : (rs : Runs) (n : ℕ) → handed rs n ≡ cond (nat_lt MAX_CHAIN_RUNS (length (grown rs n))) (run_between 0 n) (grown rs n)
unfolding handed
handed_is rs n = refl

pub long_handed : (rs : Runs) (n : ℕ) → AreLong rs → AreLong (handed rs n)
long_handed rs n l = subst AreLong (sym (handed_is rs n)) (go (nat_lt MAX_CHAIN_RUNS (length (grown rs n))))
  where
    go : (b : Bool) → AreLong (cond b (run_between 0 n) (grown rs n))
    go true = long_between 0 n
    go false = long_grown rs n l

-- it has the counts of the chain and the row's own, or it was made one run of all up to that and has fewer runs than before
abbrev pub IsHanded : Runs → ℕ → Type 0
IsHanded rs n =
    (((m : ℕ) → 1 ≤ m → holds (handed rs n) m ≡ (holds rs m || nat_eq m n)))
    ⊎ (((m : ℕ) → holds (handed rs n) m ≡ (nat_lt 0 m && nat_le m n)) × (length (handed rs n) < length rs))

pub is_handed : (rs : Runs) (n : ℕ) → AreLong rs → IsHanded rs n
is_handed rs n l = go (nat_lt MAX_CHAIN_RUNS (length (grown rs n))) refl
  where
    go : (b : Bool) → nat_lt MAX_CHAIN_RUNS (length (grown rs n)) ≡ b → IsHanded rs n
    go true e =
        let is : handed rs n ≡ run_between 0 n = handed_is rs n ∙ ap (λ b. cond b (run_between 0 n) (grown rs n)) e in
        let many = ltb-true MAX_CHAIN_RUNS (length (grown rs n)) e in
        inr (
          λ m. ap (λ (xs : Runs). holds xs m) is ∙ between 0 n m,
          omega (arith, ap length is, one_between 0 n, many, length_grown rs n),
        )
    go false e = inl (λ m low. ap (λ (xs : Runs). holds xs m) (handed_is rs n ∙ ap (λ b. cond b (run_between 0 n) (grown rs n)) e) ∙ holds_grown rs n m l low)

-- in either case it has the row's own count, and what the chain had at most up to that
pub handed_own : (rs : Runs) (n : ℕ) → AreLong rs → 0 < n → holds (handed rs n) n ≡ true
handed_own rs n l p = go (is_handed rs n l)
  where
    last : (b : Bool) → (b || nat_eq n n) ≡ true
    last true = refl
    last false = eq-eqb n n refl

    within : (n : ℕ) → 0 < n → (nat_lt 0 n && nat_le n n) ≡ true
    within n p = grind (arith, nat_tests)

    go : IsHanded rs n → holds (handed rs n) n ≡ true
    go (inl f) = f n (omega (arith, p)) ∙ last (holds rs n)
    go (inr f) = f.0 n ∙ within n p
