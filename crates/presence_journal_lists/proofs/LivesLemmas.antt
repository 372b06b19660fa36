-- A search among rising numbers, and what an edit at its place does.
use Rattle.std.proofs.Common.{◌≡◌, ℕ, zero, suc, ◌+◌, ◌-◌, ◌<◌, ◌≤◌, ◌≢◌, Bool, true, false, not, ◌&&◌, ◌||◌, List, [], ◌∷◌, length, get_or, Result, Ok, Err, IfOk, IfErr, is_ok, refl, sym, ◌∙◌, ap, subst, is_eq, arith}
use Rattle.std.specs.List.{insert, remove}
use Rattle.std.specs.List.Sorted.{IsBinarySearchResult}
use Rattle.std.specs.Ordering.{nat_cmp}
use Rattle.std.specs.Cmp.{nat_cmp_total, tied_itself, Equal-is, eq_by_cmp_equiv}
use Rattle.std.specs.FinMap.{nat_cmp-IsAntisymmetric}
use Rattle.std.proofs.lemmas.List.Sorted.{searched, list_any-IsPermutation, IsPermutation-insert, IsPermutation-remove}
use Rattle.std.proofs.lemmas.List.{get_or_default}
use Rattle.std.proofs.lemmas.List.Edits.{length-insert, get_or-insert_below, get_or-insert_at, get_or-insert_above, length-remove, get_or-remove_below, get_or-remove_above}
use Rattle.presence_journal_lists.specs.Lives.{same_number, is_one_of, Rise, IsAt, IsGapFor}

-- one number

pub same_number-refl : (n : ℕ) → same_number n n ≡ true
same_number-refl n = ap (λ o. is_eq o) (tied_itself nat_cmp_total n)

pub same_number-true : (m n : ℕ) → same_number m n ≡ true → m ≡ n
same_number-true m n h = nat_cmp-IsAntisymmetric m n ((Equal-is (nat_cmp m n)).0 h)

or_true : (b : Bool) → (b || true) ≡ true
or_true true = refl
or_true false = refl

-- the number stands somewhere, or nowhere

pub has_at : (ns : List ℕ) (n i : ℕ) → i < length ns → get_or ns i 0 ≡ n → is_one_of ns n ≡ true
has_at [] n i lt here = absurd (omega (arith, lt))
has_at (x ∷ ns) n zero lt here = ap (λ k. same_number n k || is_one_of ns n) here ∙ ap (λ b. b || is_one_of ns n) (same_number-refl n)
has_at (x ∷ ns) n (suc i) lt here = ap (λ b. same_number n x || b) (has_at ns n i (omega (arith, lt)) here) ∙ or_true (same_number n x)

none_first : (n x : ℕ) (b c : Bool) → same_number n x ≡ b → x ≢ n → c ≡ false → (b || c) ≡ false
none_first n x true c same apart rest = absurd (apart (sym (same_number-true n x same)))
none_first n x false c same apart rest = rest

pub lacks : (ns : List ℕ) (n : ℕ) → ((k : ℕ) → k < length ns → get_or ns k 0 ≢ n) → is_one_of ns n ≡ false
lacks [] n none = refl
lacks (x ∷ ns) n none = none_first n x (same_number n x) (is_one_of ns n) refl (none 0 (omega arith)) (lacks ns n (λ k lt. none (suc k) (omega (arith, lt))))

module _ (ns : List ℕ) (rise : Rise ns) (n : ℕ) where
  no_fall : (i j : ℕ) → i ≤ j → j < length ns → get_or ns i 0 ≤ get_or ns j 0
  no_fall i j le lt = grind (arith, rise i j, λ (same : i ≡ j). ap (λ k. get_or ns k 0) same)

  pub found : (r : Result ℕ ℕ) → IsBinarySearchResult (λ y. nat_cmp y n) ns r → IfOk r (IsAt ns n)
  found (Ok i) s = let p = searched ns n (Ok i) s no_fall in record { in_range = p.0; here = p.1 }
  found (Err i) s = tt

  pub not_found : (r : Result ℕ ℕ) → IsBinarySearchResult (λ y. nat_cmp y n) ns r → IfErr r (IsGapFor ns n)
  not_found (Ok i) s = tt
  not_found (Err i) s = let p = searched ns n (Err i) s no_fall in record { in_range = p.0; lower_before = p.1; higher_after = p.2 }

pub not_in_gap : (ns : List ℕ) (n i : ℕ) → IsGapFor ns n i → is_one_of ns n ≡ false
not_in_gap ns n i gap = lacks ns n (λ k lt same. grind (arith, gap.lower_before k, gap.higher_after k))

pub contains_is : (ns : List ℕ) (n : ℕ) (r : Result ℕ ℕ) → IfOk r (IsAt ns n) → IfErr r (IsGapFor ns n) → is_ok r ≡ is_one_of ns n
contains_is ns n (Ok i) found absent = sym (has_at ns n i found.in_range found.here)
contains_is ns n (Err i) found absent = sym (not_in_gap ns n i absent)

-- one more

pub one_more : (ns : List ℕ) (n i m : ℕ) → is_one_of (insert ns i n) m ≡ (same_number n m || is_one_of ns m)
one_more ns n i m = sym (list_any-IsPermutation (same_number m) (n ∷ ns) (insert ns i n) (IsPermutation-insert ns i n)) ∙ ap (λ b. b || is_one_of ns m) ((eq_by_cmp_equiv nat_cmp_total).symm m n)

pub one_already : (ns : List ℕ) (n i m : ℕ) → IsAt ns n i → is_one_of ns m ≡ (same_number n m || is_one_of ns m)
one_already ns n i m is_at = go (same_number n m) refl
  where
    go : (b : Bool) → same_number n m ≡ b → is_one_of ns m ≡ (b || is_one_of ns m)
    go true same = ap (is_one_of ns) (sym (same_number-true n m same)) ∙ has_at ns n i is_at.in_range is_at.here
    go false same = refl

pub one_missing : (ns : List ℕ) (n i m : ℕ) → IsGapFor ns n i → is_one_of ns m ≡ (not (same_number n m) && is_one_of ns m)
one_missing ns n i m gap = go (same_number n m) refl
  where
    go : (b : Bool) → same_number n m ≡ b → is_one_of ns m ≡ (not b && is_one_of ns m)
    go true same = ap (is_one_of ns) (sym (same_number-true n m same)) ∙ not_in_gap ns n i gap
    go false same = refl

pub rise_insert : (ns : List ℕ) (n at : ℕ) → IsGapFor ns n at → Rise ns → Rise (insert ns at n)
rise_insert ns n at gap rise i j lt in_range =
    let new = insert ns at n in
    let length_new = length-insert ns at n gap.in_range in
    let below : (i : ℕ) → i < at → get_or new i 0 ≡ get_or ns i 0 = λ i b. get_or-insert_below ns at n 0 i b gap.in_range in
    let here : (i : ℕ) → i ≡ at → get_or new i 0 ≡ n = λ i e. ap (λ k. get_or new k 0) e ∙ get_or-insert_at ns at n 0 gap.in_range in
    let above : (i : ℕ) → at < i → get_or new i 0 ≡ get_or ns (i - 1) 0 = λ i a. subst (λ q. get_or new q 0 ≡ get_or ns (i - 1) 0) {x = i - 1 + 1} (omega arith) (get_or-insert_above ns at n 0 (i - 1) (omega arith) gap.in_range) in
    grind (arith, below i, here i, above i, below j, here j, above j, rise i j, rise i (j - 1), rise (i - 1) (j - 1), gap.lower_before i, gap.higher_after (j - 1))

-- one less

module _ (ns : List ℕ) (rise : Rise ns) (n at : ℕ) (is_at : IsAt ns n at) where
  pub rise_remove : Rise (remove ns at)
  rise_remove i j lt in_range =
      let new = remove ns at in
      let length_new = length-remove ns at is_at.in_range in
      let below : (i : ℕ) → i < at → get_or new i 0 ≡ get_or ns i 0 = λ i b. get_or-remove_below ns at 0 i b is_at.in_range in
      let above : (i : ℕ) → at ≤ i → get_or new i 0 ≡ get_or ns (i + 1) 0 = λ i a. get_or-remove_above ns at 0 i a is_at.in_range in
      grind (arith, below i, above i, below j, above j, rise i j, rise i (j + 1), rise (i + 1) (j + 1))

  without : is_one_of (remove ns at) n ≡ false
  without = lacks (remove ns at) n (λ k lt same.
      let new = remove ns at in
      let length_new = length-remove ns at is_at.in_range in
      let below : k < at → get_or new k 0 ≡ get_or ns k 0 = λ b. get_or-remove_below ns at 0 k b is_at.in_range in
      let above : at ≤ k → get_or new k 0 ≡ get_or ns (k + 1) 0 = λ a. get_or-remove_above ns at 0 k a is_at.in_range in
      grind (arith, below, above, rise k at, rise at (k + 1), is_at.in_range, is_at.here))

  pub one_less : (m : ℕ) → is_one_of (remove ns at) m ≡ (not (same_number n m) && is_one_of ns m)
  one_less m = go (same_number n m) refl
    where
      all : is_one_of ns m ≡ (same_number m n || is_one_of (remove ns at) m)
      all = list_any-IsPermutation (same_number m) ns (n ∷ remove ns at) (IsPermutation-remove ns at n is_at.in_range (sym is_at.here ∙ get_or_default ns at 0 n is_at.in_range))

      other : (b : Bool) → same_number m n ≡ b → same_number n m ≡ false → b ≡ false
      other false e f = refl
      other true e f =
          let w : true ≡ false = sym (same_number-refl n) ∙ (ap (same_number n) (sym (same_number-true m n e)) ∙ f) in
          absurd (cc)

      go : (b : Bool) → same_number n m ≡ b → is_one_of (remove ns at) m ≡ (not b && is_one_of ns m)
      go true e = ap (is_one_of (remove ns at)) (sym (same_number-true n m e)) ∙ without
      go false e = sym (all ∙ ap (λ b. b || is_one_of (remove ns at) m) (other (same_number m n) refl e))
