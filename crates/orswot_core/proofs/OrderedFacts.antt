-- The dots that a form lists ascend.
use Rattle.std.proofs.Common.{◌≡◌, ℕ, ◌+◌, ◌-◌, ◌<◌, ◌≤◌, suc, zero, Bool, true, false, cond, ◌==◌, List, [], ◌∷◌, ◌++◌, length, nat_lt, subst, arith, refl, sym, ◌∙◌, ap, Ordering}
use Rattle.std.specs.List.{AllByRecursion}
use Rattle.std.specs.List.Sorted.{IsStrictlySortedBy}
use Rattle.std.proofs.lemmas.Bool.Decides.{nat_tests}
use Rattle.std.specs.Ordering.{nat_cmp, ordering_then}
use Rattle.std.specs.declared.cmp.Ordering.TheVariants.{Less, Equal, Greater}
use Rattle.std.specs.Cmp.{tied_itself}
use Rattle.std.specs.Map.{keys_of}
use Rattle.presence_base.specs.declared.dots.Replica.{Replica}
use Rattle.presence_base.specs.declared.dots.Dot.{Dot}
use Rattle.presence_base.specs.Order.{replica_cmp, dot_cmp}
use Rattle.dot_context.specs.Runs.{AreRuns, above_top}
use Rattle.dot_context.specs.Sets.{span, run_dots}
use Rattle.dot_context.specs.Forms.{Form, cloud_of}
use Rattle.orswot_core.specs.Full.{dot_of, dots_of_runs, dots_above}
use Rattle.orswot_core.proofs.OrderFacts.{replica_total}
use Rattle.orswot_core.proofs.ListedFacts.{above_all}

module _ {A : Type 0} where
  pub each_weaker : (P Q : A → Type 0) → ((x : A) → P x → Q x) → (xs : List A) → AllByRecursion P xs → AllByRecursion Q xs
  each_weaker P Q f [] h = tt
  each_weaker P Q f (x ∷ xs) h = (f x h.0, each_weaker P Q f xs h.1)

  each_append : (P : A → Type 0) (xs ys : List A) → AllByRecursion P xs → AllByRecursion P ys → AllByRecursion P (xs ++ ys)
  each_append P [] ys h k = k
  each_append P (x ∷ xs) ys h k = (h.0, each_append P xs ys h.1 k)

  each_true : (P : A → Type 0) → ((x : A) → P x) → (xs : List A) → AllByRecursion P xs
  each_true P f [] = tt
  each_true P f (x ∷ xs) = (f x, each_true P f xs)

  -- two lists in order, each of the first below each of the second
  sorted_append : (c : A → A → Ordering) (xs ys : List A) → IsStrictlySortedBy c xs → IsStrictlySortedBy c ys → AllByRecursion (λ x. AllByRecursion (λ y. c x y ≡ Less) ys) xs
      → IsStrictlySortedBy c (xs ++ ys)
  unfolding IsStrictlySortedBy
  sorted_append c [] ys h k below = k
  sorted_append c (x ∷ xs) ys h k below = (each_append (λ y. c x y ≡ Less) xs ys h.0 below.0, sorted_append c xs ys h.1 k below.1)

count_below : (m n : ℕ) → m < n → nat_cmp m n ≡ Less
count_below m n lt =
    let less : nat_lt m n ≡ true = grind (arith, nat_tests) in
    ap (λ b. cond b Less (cond (m == n) Equal Greater)) less

-- of one replica, a lower count comes first
pub same_replica_below : (d e : Dot) → d.replica ≡ e.replica → d.count < e.count → dot_cmp d e ≡ Less
same_replica_below d e same lt =
    ap (λ r. ordering_then (replica_cmp r e.replica) (nat_cmp d.count e.count)) same
    ∙ ap (λ o. ordering_then o (nat_cmp d.count e.count)) (tied_itself replica_total e.replica)
    ∙ count_below d.count e.count lt

span_within : (r : Replica) (from k : ℕ) → AllByRecursion (λ d. (d.replica ≡ r) × (from < d.count) × (d.count ≤ from + k)) (span r from k)
span_within r from zero = tt
span_within r from (suc k) = (
  (refl, omega arith, omega arith),
  each_weaker (λ (d : Dot). (d.replica ≡ r) × (suc from < d.count) × (d.count ≤ suc from + k)) (λ (d : Dot). (d.replica ≡ r) × (from < d.count) × (d.count ≤ from + suc k))
      (λ d h. (h.0, omega (arith, h.1), omega (arith, h.2))) (span r (suc from) k) (span_within r (suc from) k),
)

span_sorted : (r : Replica) (from k : ℕ) → IsStrictlySortedBy dot_cmp (span r from k)
unfolding IsStrictlySortedBy
span_sorted r from zero = tt
span_sorted r from (suc k) = (
  each_weaker (λ (d : Dot). (d.replica ≡ r) × (suc from < d.count) × (d.count ≤ suc from + k)) (λ d. dot_cmp (dot_of r (suc from)) d ≡ Less)
      (λ d h. same_replica_below (dot_of r (suc from)) d (sym h.0) h.1) (span r (suc from) k) (span_within r (suc from) k),
  span_sorted r (suc from) k,
)

runs_within : (r : Replica) (low : ℕ) (rs : List (ℕ × ℕ)) → AreRuns low rs → AllByRecursion (λ d. (d.replica ≡ r) × (low < d.count)) (run_dots r rs)
runs_within r low [] h = tt
runs_within r low (x ∷ xs) h = each_append (λ (d : Dot). (d.replica ≡ r) × (low < d.count)) (span r x.0 (x.1 - x.0)) (run_dots r xs)
    (each_weaker (λ (d : Dot). (d.replica ≡ r) × (x.0 < d.count) × (d.count ≤ x.0 + (x.1 - x.0))) (λ (d : Dot). (d.replica ≡ r) × (low < d.count))
    (λ d k. (k.0, omega (arith, k.1, h.0))) (span r x.0 (x.1 - x.0)) (span_within r x.0 (x.1 - x.0)))
    (each_weaker (λ (d : Dot). (d.replica ≡ r) × (suc x.1 < d.count)) (λ (d : Dot). (d.replica ≡ r) × (low < d.count))
    (λ d k. (k.0, omega (arith, k.1, h.0, h.1))) (run_dots r xs) (runs_within r (suc x.1) xs h.2))

runs_sorted : (r : Replica) (low : ℕ) (rs : List (ℕ × ℕ)) → AreRuns low rs → IsStrictlySortedBy dot_cmp (run_dots r rs)
unfolding IsStrictlySortedBy
runs_sorted r low [] h = tt
runs_sorted r low (x ∷ xs) h = sorted_append dot_cmp (span r x.0 (x.1 - x.0)) (run_dots r xs) (span_sorted r x.0 (x.1 - x.0)) (runs_sorted r (suc x.1) xs h.2)
    (each_weaker (λ (d : Dot). (d.replica ≡ r) × (x.0 < d.count) × (d.count ≤ x.0 + (x.1 - x.0))) (λ d. AllByRecursion (λ e. dot_cmp d e ≡ Less) (run_dots r xs))
    (λ d k. each_weaker (λ (e : Dot). (e.replica ≡ r) × (suc x.1 < e.count)) (λ e. dot_cmp d e ≡ Less)
    (λ e l. same_replica_below d e (k.0 ∙ sym l.0) (omega (arith, k.2, l.1, h.1))) (run_dots r xs) (runs_within r (suc x.1) xs h.2))
    (span r x.0 (x.1 - x.0)) (span_within r x.0 (x.1 - x.0)))

earlier_replica : (d e : Dot) → replica_cmp d.replica e.replica ≡ Less → dot_cmp d e ≡ Less
earlier_replica d e less = ap (λ o. ordering_then o (nat_cmp d.count e.count)) less

-- the runs above the first gap are longest ones too
above_runs : (rs : List (ℕ × ℕ)) → AreRuns 0 rs → AreRuns 0 (above_top rs)
above_runs [] h = tt
above_runs (r ∷ rs) h = go (nat_lt 0 r.0)
  where
    rest : AreRuns (suc r.1) (above_top rs)
    rest = subst (AreRuns (suc r.1)) (sym (above_all r.1 rs h.2)) h.2

    from_zero : (low : ℕ) (xs : List (ℕ × ℕ)) → AreRuns low xs → AreRuns 0 xs
    from_zero low [] k = tt
    from_zero low (x ∷ xs) k = (omega arith, k.1, k.2)

    go : (b : Bool) → AreRuns 0 (cond b (r ∷ above_top rs) (above_top rs))
    go true = (h.0, h.1, rest)
    go false = from_zero (suc r.1) (above_top rs) rest

-- each dot of the cloud is of a later replica than one below all
later_dots : (r : Replica) (f : Form) → AllByRecursion (λ q. replica_cmp r q ≡ Less) (keys_of f) → AllByRecursion (λ e. AreRuns 0 e.1) f
    → AllByRecursion (λ (d : Dot). replica_cmp r d.replica ≡ Less) (dots_above f)
later_dots r [] h k = tt
later_dots r (e ∷ es) h k = go (nat_lt 0 (length (above_top e.1))) (later_dots r es h.1 k.1)
  where
    go : (b : Bool) → AllByRecursion (λ (d : Dot). replica_cmp r d.replica ≡ Less) (dots_above es) → AllByRecursion (λ (d : Dot). replica_cmp r d.replica ≡ Less) (dots_of_runs (cond b ((e.0, above_top e.1) ∷ cloud_of es) (cloud_of es)))
    go true rest = each_append (λ (d : Dot). replica_cmp r d.replica ≡ Less) (run_dots e.0 (above_top e.1)) (dots_above es)
        (each_weaker (λ (d : Dot). (d.replica ≡ e.0) × (0 < d.count)) (λ (d : Dot). replica_cmp r d.replica ≡ Less)
        (λ d l. ap (replica_cmp r) l.0 ∙ h.0) (run_dots e.0 (above_top e.1)) (runs_within e.0 0 (above_top e.1) (above_runs e.1 k.0)))
        rest
    go false rest = rest

-- the dots above the tops ascend
pub above_sorted : (f : Form) → IsStrictlySortedBy replica_cmp (keys_of f) → AllByRecursion (λ e. AreRuns 0 e.1) f → IsStrictlySortedBy dot_cmp (dots_above f)
unfolding IsStrictlySortedBy
above_sorted [] h k = tt
above_sorted (e ∷ es) h k = go (nat_lt 0 (length (above_top e.1))) (above_sorted es h.1 k.1)
  where
    go : (b : Bool) → IsStrictlySortedBy dot_cmp (dots_above es) → IsStrictlySortedBy dot_cmp (dots_of_runs (cond b ((e.0, above_top e.1) ∷ cloud_of es) (cloud_of es)))
    go true rest = sorted_append dot_cmp (run_dots e.0 (above_top e.1)) (dots_above es) (runs_sorted e.0 0 (above_top e.1) (above_runs e.1 k.0)) rest
        (each_weaker (λ (d : Dot). (d.replica ≡ e.0) × (0 < d.count)) (λ d. AllByRecursion (λ x. dot_cmp d x ≡ Less) (dots_above es))
        (λ d l. each_weaker (λ (x : Dot). replica_cmp e.0 x.replica ≡ Less) (λ x. dot_cmp d x ≡ Less)
        (λ x less. earlier_replica d x (ap (λ r. replica_cmp r x.replica) l.0 ∙ less)) (dots_above es) (later_dots e.0 es h.0 k.1))
        (run_dots e.0 (above_top e.1)) (runs_within e.0 0 (above_top e.1) (above_runs e.1 k.0)))
    go false rest = rest
