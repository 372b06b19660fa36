-- Longest runs: which counts they have, and that they don't depend on the order in which runs are taken in.
use Rattle.std.proofs.Common.{◌≡◌, ℕ, suc, ◌<◌, ◌≤◌, min, max, Bool, true, false, cond, ◌&&◌, ◌||◌, nat_le, nat_lt, List, [], ◌∷◌, ◌++◌, length, refl, sym, ◌∙◌, ap, arith}
use Rattle.std.proofs.lemmas.Bool.Decides.{nat_tests}
use Rattle.std.specs.List.{list_all, All}
use Rattle.std.proofs.lemmas.List.Elements.{All-nil, All-cons, All-head, All-tail}
use Rattle.std.specs.List.Sorted.{IsPermutation, IsNonDecreasingBy}
use Rattle.std.proofs.lemmas.List.Sorted.{list_any-IsPermutation, All-permutation}
use Rattle.dot_context.specs.Runs.{in_run, holds, AreRuns, AreLong}
use Rattle.dot_context.proofs.FormFacts.{same_runs}
use Rattle.delta_range.specs.Longest.{up_to, with_run, longest, coalesced_from, coalesced}
use Rattle.delta_range.proofs.BoolFacts.{both, and_both}

abbrev Run : Type 0
Run = ℕ × ℕ

-- ---- one more run

or_groups : (a b c : Bool) → (a || (b || c)) ≡ ((a || b) || c)
or_groups true b c = refl
or_groups false b c = refl

swapped : (a b c : Bool) → (a || (b || c)) ≡ (b || (a || c))
swapped true true c = refl
swapped true false c = refl
swapped false b c = refl

both_runs : (n a b c d : ℕ) → a < b → c < d → c ≤ b → a ≤ d → (nat_lt (min a c) n && nat_le n (max b d)) ≡ ((nat_lt a n && nat_le n b) || (nat_lt c n && nat_le n d))
both_runs n a b c d p q r s = grind (arith, nat_tests)

pub weaker : (low low' : ℕ) (rs : List Run) → low ≤ low' → AreRuns low' rs → AreRuns low rs
weaker low low' [] le h = tt
weaker low low' (r ∷ rs) le h = (omega arith, h.1, h.2)

below_test : (a b : ℕ) → nat_lt a b ≡ true → a < b
below_test a b e = grind (arith, nat_tests)

not_below_test : (a b : ℕ) → nat_lt a b ≡ false → b ≤ a
not_below_test a b e = grind (arith, nat_tests)

at_most_test : (a b : ℕ) → nat_le a b ≡ true → a ≤ b
at_most_test a b e = grind (arith, nat_tests)

pub at_most : (a b : ℕ) → a ≤ b → nat_le a b ≡ true
at_most a b e = grind (arith, nat_tests)

above_test : (a b : ℕ) → nat_le a b ≡ false → b < a
above_test a b e = grind (arith, nat_tests)

least : (l a b : ℕ) → l ≤ a → l ≤ b → l ≤ min a b
least l a b p q = omega arith

greatest : (m a b : ℕ) → a ≤ m → b ≤ m → max a b ≤ m
greatest m a b p q = omega arith

longer : (a b c d : ℕ) → a < b → min a c < max b d
longer a b c d p = omega arith

pub runs_with : (low : ℕ) (x : Run) (rs : List Run) → low ≤ x.0 → x.0 < x.1 → AreRuns low rs → AreRuns low (with_run x rs)
runs_with low x [] le long h = (le, long, tt)
runs_with low x (r ∷ rs) le long h =
    elim (nat_lt x.1 r.0) as (λ b. nat_lt x.1 r.0 ≡ b → AreRuns low (cond b (x ∷ r ∷ rs) (cond (nat_lt r.1 x.0) (r ∷ with_run x rs) (with_run (min x.0 r.0, max x.1 r.1) rs)))) [
      | true ↦ λ e. (le, long, (below_test x.1 r.0 e, h.1, h.2))
      | false ↦ λ e.
          elim (nat_lt r.1 x.0) as (λ b. nat_lt r.1 x.0 ≡ b → AreRuns low (cond b (r ∷ with_run x rs) (with_run (min x.0 r.0, max x.1 r.1) rs))) [
            | true ↦ λ f. (h.0, h.1, runs_with (suc r.1) x rs (below_test r.1 x.0 f) long h.2)
            | false ↦ λ f. runs_with low (min x.0 r.0, max x.1 r.1) rs (least low x.0 r.0 le h.0) (longer x.0 x.1 r.0 r.1 long) (weaker low (suc r.1) rs (behind low r h.0 h.1) h.2)
          ] refl
    ] refl
  where
    behind : (low : ℕ) (r : Run) → low ≤ r.0 → r.0 < r.1 → low ≤ suc r.1
    behind low r p q = omega arith

pub holds_with : (low : ℕ) (x : Run) (rs : List Run) (n : ℕ) → x.0 < x.1 → AreRuns low rs → holds (with_run x rs) n ≡ (in_run x n || holds rs n)
holds_with low x [] n long h = refl
holds_with low x (r ∷ rs) n long h =
    elim (nat_lt x.1 r.0) as (λ b. nat_lt x.1 r.0 ≡ b → holds (cond b (x ∷ r ∷ rs) (cond (nat_lt r.1 x.0) (r ∷ with_run x rs) (with_run (min x.0 r.0, max x.1 r.1) rs))) n ≡ (in_run x n || (in_run r n || holds rs n))) [
      | true ↦ λ e. refl
      | false ↦ λ e.
          elim (nat_lt r.1 x.0) as (λ b. nat_lt r.1 x.0 ≡ b → holds (cond b (r ∷ with_run x rs) (with_run (min x.0 r.0, max x.1 r.1) rs)) n ≡ (in_run x n || (in_run r n || holds rs n))) [
            | true ↦ λ f. ap (λ b. in_run r n || b) (holds_with (suc r.1) x rs n long h.2) ∙ swapped (in_run r n) (in_run x n) (holds rs n)
            | false ↦ λ f.
                holds_with (suc r.1) (min x.0 r.0, max x.1 r.1) rs n (longer x.0 x.1 r.0 r.1 long) h.2
                ∙ ap (λ b. b || holds rs n) (both_runs n x.0 x.1 r.0 r.1 long h.1 (not_below_test x.1 r.0 e) (not_below_test r.1 x.0 f))
                ∙ sym (or_groups (in_run x n) (in_run r n) (holds rs n))
          ] refl
    ] refl

pub ends_with : (m : ℕ) (x : Run) (rs : List Run) → x.1 ≤ m → list_all (λ r. nat_le r.1 m) rs ≡ true → list_all (λ r. nat_le r.1 m) (with_run x rs) ≡ true
ends_with m x [] le h = and_both (nat_le x.1 m) true (at_most x.1 m le) refl
ends_with m x (r ∷ rs) le h =
    let parts = both (nat_le r.1 m) (list_all (λ q. nat_le q.1 m) rs) h in
    elim (nat_lt x.1 r.0) as (λ b. list_all (λ q. nat_le q.1 m) (cond b (x ∷ r ∷ rs) (cond (nat_lt r.1 x.0) (r ∷ with_run x rs) (with_run (min x.0 r.0, max x.1 r.1) rs))) ≡ true) [
      | true ↦ and_both (nat_le x.1 m) (list_all (λ q. nat_le q.1 m) (r ∷ rs)) (at_most x.1 m le) h
      | false ↦
          elim (nat_lt r.1 x.0) as (λ b. list_all (λ q. nat_le q.1 m) (cond b (r ∷ with_run x rs) (with_run (min x.0 r.0, max x.1 r.1) rs)) ≡ true) [
            | true ↦ and_both (nat_le r.1 m) (list_all (λ q. nat_le q.1 m) (with_run x rs)) parts.0 (ends_with m x rs le parts.1)
            | false ↦ ends_with m (min x.0 r.0, max x.1 r.1) rs (greatest m x.1 r.1 le (at_most_test r.1 m parts.0)) parts.1
          ]
    ]

one_more : (k m : ℕ) → k ≤ suc m → suc k ≤ suc (suc m)
one_more k m h = omega arith

stays : (k m : ℕ) → k ≤ suc m → k ≤ suc (suc m)
stays k m h = omega arith

pub length_with : (x : Run) (rs : List Run) → length (with_run x rs) ≤ suc (length rs)
length_with x [] = omega arith
length_with x (r ∷ rs) =
    elim (nat_lt x.1 r.0) as (λ b. length (cond b (x ∷ r ∷ rs) (cond (nat_lt r.1 x.0) (r ∷ with_run x rs) (with_run (min x.0 r.0, max x.1 r.1) rs))) ≤ suc (suc (length rs))) [
      | true ↦ omega arith
      | false ↦
          elim (nat_lt r.1 x.0) as (λ b. length (cond b (r ∷ with_run x rs) (with_run (min x.0 r.0, max x.1 r.1) rs)) ≤ suc (suc (length rs))) [
            | true ↦ one_more (length (with_run x rs)) (length rs) (length_with x rs)
            | false ↦ stays (length (with_run (min x.0 r.0, max x.1 r.1) rs)) (length rs) (length_with (min x.0 r.0, max x.1 r.1) rs)
          ]
    ]

-- ---- all of them

pub longest_runs : (rs : List Run) → AreLong rs → AreRuns 0 (longest rs)
unfolding longest
longest_runs [] h = tt
longest_runs (r ∷ rs) h = runs_with 0 r (longest rs) (omega arith) h.0 (longest_runs rs h.1)

pub holds_longest : (rs : List Run) (n : ℕ) → AreLong rs → holds (longest rs) n ≡ holds rs n
unfolding longest
holds_longest [] n h = refl
holds_longest (r ∷ rs) n h = holds_with 0 r (longest rs) n h.0 (longest_runs rs h.1) ∙ ap (λ b. in_run r n || b) (holds_longest rs n h.1)

pub ends_longest : (m : ℕ) (rs : List Run) → list_all (λ r. nat_le r.1 m) rs ≡ true → list_all (λ r. nat_le r.1 m) (longest rs) ≡ true
unfolding longest
ends_longest m [] h = refl
ends_longest m (r ∷ rs) h =
    let parts = both (nat_le r.1 m) (list_all (λ q. nat_le q.1 m) rs) h in
    ends_with m r (longest rs) (at_most_test r.1 m parts.0) (ends_longest m rs parts.1)

le_through : (a b c : ℕ) → a ≤ suc b → b ≤ c → a ≤ suc c
le_through a b c p q = omega arith

pub length_longest : (rs : List Run) → length (longest rs) ≤ length rs
unfolding longest
length_longest [] = omega arith
length_longest (r ∷ rs) = le_through (length (with_run r (longest rs))) (length (longest rs)) (length rs) (length_with r (longest rs)) (length_longest rs)

-- ---- up to a count

pub long_runs : (low : ℕ) (rs : List Run) → AreRuns low rs → AreLong rs
long_runs low [] h = tt
long_runs low (r ∷ rs) h = (h.1, long_runs (suc r.1) rs h.2)

pub long_append : (rs ss : List Run) → AreLong rs → AreLong ss → AreLong (rs ++ ss)
long_append [] ss g h = h
long_append (r ∷ rs) ss g h = (g.0, long_append rs ss g.1 h)

within_both : (a b n : ℕ) → a < b → a < n → a < min b n
within_both a b n p q = omega arith

pub long_up_to : (m : ℕ) (rs : List Run) → AreLong rs → AreLong (up_to m rs)
long_up_to m [] h = tt
long_up_to m (r ∷ rs) h =
    elim (nat_lt r.0 m) as (λ b. nat_lt r.0 m ≡ b → AreLong (cond b ((r.0, min r.1 m) ∷ up_to m rs) (up_to m rs))) [
      | true ↦ λ e. (within_both r.0 r.1 m h.0 (below_test r.0 m e), long_up_to m rs h.1)
      | false ↦ λ e. long_up_to m rs h.1
    ] refl

below_cut : (a b m n : ℕ) → (nat_lt a n && nat_le n (min b m)) ≡ (nat_le n m && (nat_lt a n && nat_le n b))
below_cut a b m n = grind (arith, nat_tests)

above_cut : (a b m n : ℕ) → m ≤ a → (nat_le n m && (nat_lt a n && nat_le n b)) ≡ false
above_cut a b m n h = grind (arith, nat_tests)

and_or : (a b c : Bool) → ((a && b) || (a && c)) ≡ (a && (b || c))
and_or true b c = refl
and_or false b c = refl

no_count : (b : Bool) → false ≡ (b && false)
no_count true = refl
no_count false = refl

pub holds_up_to : (m n : ℕ) (rs : List Run) → holds (up_to m rs) n ≡ (nat_le n m && holds rs n)
holds_up_to m n [] = no_count (nat_le n m)
holds_up_to m n (r ∷ rs) =
    elim (nat_lt r.0 m) as (λ b. nat_lt r.0 m ≡ b → holds (cond b ((r.0, min r.1 m) ∷ up_to m rs) (up_to m rs)) n ≡ (nat_le n m && (in_run r n || holds rs n))) [
      | true ↦ λ e. ap (λ b. b || holds (up_to m rs) n) (below_cut r.0 r.1 m n) ∙ ap (λ b. (nat_le n m && in_run r n) || b) (holds_up_to m n rs) ∙ and_or (nat_le n m) (in_run r n) (holds rs n)
      | false ↦ λ e.
          holds_up_to m n rs
          ∙ ap (λ b. b || (nat_le n m && holds rs n)) (sym (above_cut r.0 r.1 m n (not_below_test r.0 m e)))
          ∙ and_or (nat_le n m) (in_run r n) (holds rs n)
    ] refl

pub ends_up_to : (m : ℕ) (rs : List Run) → list_all (λ r. nat_le r.1 m) (up_to m rs) ≡ true
ends_up_to m [] = refl
ends_up_to m (r ∷ rs) =
    elim (nat_lt r.0 m) as (λ b. list_all (λ q. nat_le q.1 m) (cond b ((r.0, min r.1 m) ∷ up_to m rs) (up_to m rs)) ≡ true) [
      | true ↦ and_both (nat_le (min r.1 m) m) (list_all (λ q. nat_le q.1 m) (up_to m rs)) (lesser r.1 m) (ends_up_to m rs)
      | false ↦ ends_up_to m rs
    ]
  where
    lesser : (a m : ℕ) → nat_le (min a m) m ≡ true
    lesser a m = grind (arith, nat_tests)

pub length_up_to : (m : ℕ) (rs : List Run) → length (up_to m rs) ≤ length rs
length_up_to m [] = omega arith
length_up_to m (r ∷ rs) =
    let rest : length (up_to m rs) ≤ length rs = length_up_to m rs in
    elim (nat_lt r.0 m) as (λ b. length (cond b ((r.0, min r.1 m) ∷ up_to m rs) (up_to m rs)) ≤ suc (length rs)) [ true ↦ omega arith | false ↦ omega arith ]

pub up_to_append : (m : ℕ) (rs ss : List Run) → up_to m (rs ++ ss) ≡ up_to m rs ++ up_to m ss
up_to_append m [] ss = refl
up_to_append m (r ∷ rs) ss =
    elim (nat_lt r.0 m) as (λ b. cond b ((r.0, min r.1 m) ∷ up_to m (rs ++ ss)) (up_to m (rs ++ ss)) ≡ cond b ((r.0, min r.1 m) ∷ up_to m rs) (up_to m rs) ++ up_to m ss) [
      | true ↦ ap (λ l. (r.0, min r.1 m) ∷ l) (up_to_append m rs ss)
      | false ↦ up_to_append m rs ss
    ]

-- ---- by where they begin

-- none begins before a count, nor before those in front of it
abbrev Begin : ℕ → List Run → Type 0
Begin low [] = Unit {0}
Begin low (r ∷ rs) = (low ≤ r.0) × Begin r.0 rs

begin_lower : (low low' : ℕ) (rs : List Run) → low ≤ low' → Begin low' rs → Begin low rs
begin_lower low low' [] le h = tt
begin_lower low low' (r ∷ rs) le h = (omega arith, h.1)

pub runs_coalesced : (low : ℕ) (x : Run) (rs : List Run) → low ≤ x.0 → x.0 < x.1 → AreLong rs → Begin x.0 rs → AreRuns low (coalesced_from x rs)
runs_coalesced low x [] le long h up = (le, long, tt)
runs_coalesced low x (r ∷ rs) le long h up =
    elim (nat_le r.0 x.1) as (λ b. nat_le r.0 x.1 ≡ b → AreRuns low (cond b (coalesced_from (x.0, max x.1 r.1) rs) (x ∷ coalesced_from r rs))) [
      | true ↦ λ e. runs_coalesced low (x.0, max x.1 r.1) rs le (further x.0 x.1 r.1 long) h.1 (begin_lower x.0 r.0 rs up.0 up.1)
      | false ↦ λ e. (le, long, runs_coalesced (suc x.1) r rs (above_test r.0 x.1 e) h.0 h.1 up.1)
    ] refl
  where
    further : (a b c : ℕ) → a < b → a < max b c
    further a b c p = omega arith

taken_in : (n a b c d : ℕ) → a ≤ c → c ≤ b → c < d → (nat_lt a n && nat_le n (max b d)) ≡ ((nat_lt a n && nat_le n b) || (nat_lt c n && nat_le n d))
taken_in n a b c d p q r = grind (arith, nat_tests)

pub holds_coalesced : (x : Run) (rs : List Run) (n : ℕ) → AreLong rs → Begin x.0 rs → holds (coalesced_from x rs) n ≡ (in_run x n || holds rs n)
holds_coalesced x [] n h up = refl
holds_coalesced x (r ∷ rs) n h up =
    elim (nat_le r.0 x.1) as (λ b. nat_le r.0 x.1 ≡ b → holds (cond b (coalesced_from (x.0, max x.1 r.1) rs) (x ∷ coalesced_from r rs)) n ≡ (in_run x n || (in_run r n || holds rs n))) [
      | true ↦ λ e.
          holds_coalesced (x.0, max x.1 r.1) rs n h.1 (begin_lower x.0 r.0 rs up.0 up.1)
          ∙ ap (λ b. b || holds rs n) (taken_in n x.0 x.1 r.0 r.1 up.0 (at_most_test r.0 x.1 e) h.0)
          ∙ sym (or_groups (in_run x n) (in_run r n) (holds rs n))
      | false ↦ λ e. ap (λ b. in_run x n || b) (holds_coalesced r rs n h.1 up.1)
    ] refl

first_of_two : (x y : Run) (rs : List Run) → IsNonDecreasingBy (λ (r : Run). r.0) (x ∷ y ∷ rs) → x.0 ≤ y.0
first_of_two x y rs h = h 0 1 (0, 0) (omega arith) (omega arith)

pub rising : (x : Run) (rs : List Run) → IsNonDecreasingBy (λ (r : Run). r.0) (x ∷ rs) → Begin x.0 rs
rising x [] h = tt
rising x (y ∷ rs) h = (first_of_two x y rs h, rising y rs (λ i j d le lt. h (suc i) (suc j) d (omega arith) (omega arith)))

each_long : (rs : List Run) → AreLong rs → All (λ (r : Run). r.0 < r.1) rs
each_long [] h = All-nil (λ (r : Run). r.0 < r.1)
each_long (r ∷ rs) h = All-cons (λ (q : Run). q.0 < q.1) r rs h.0 (each_long rs h.1)

long_each : (rs : List Run) → All (λ (r : Run). r.0 < r.1) rs → AreLong rs
long_each [] h = tt
long_each (r ∷ rs) h = (All-head (λ (q : Run). q.0 < q.1) r rs h, long_each rs (All-tail (λ (q : Run). q.0 < q.1) r rs h))

coalesced_is : (sorted rs : List Run) → AreLong sorted → AreLong rs → IsNonDecreasingBy (λ (r : Run). r.0) sorted → ((n : ℕ) → holds sorted n ≡ holds rs n) → coalesced sorted ≡ longest rs
coalesced_is [] rs g h up same = same_runs [] (longest rs) 0 0 tt (longest_runs rs h) (λ n. same n ∙ sym (holds_longest rs n h))
coalesced_is (x ∷ xs) rs g h up same =
    same_runs (coalesced_from x xs) (longest rs) 0 0
    (runs_coalesced 0 x xs (omega arith) g.0 g.1 (rising x xs up))
    (longest_runs rs h)
    (λ n. holds_coalesced x xs n g.1 (rising x xs up) ∙ same n ∙ sym (holds_longest rs n h))

-- runs sorted by where they begin become the longest ones
pub sorted_coalesced : (rs sorted : List Run) → AreLong rs → IsPermutation rs sorted → IsNonDecreasingBy (λ (r : Run). r.0) sorted → coalesced sorted ≡ longest rs
sorted_coalesced rs sorted h moved up =
    coalesced_is sorted rs (long_each sorted (All-permutation (λ (r : Run). r.0 < r.1) rs sorted moved (each_long rs h))) h up (λ n. sym (list_any-IsPermutation (λ r. in_run r n) rs sorted moved))
