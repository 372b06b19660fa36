-- What the lists of a form have: its ranges up to the tops, and the dots above them.
use Rattle.std.proofs.Common.{◌≡◌, ℕ, ◌+◌, ◌-◌, ◌<◌, ◌≤◌, suc, Bool, true, false, not, cond, ◌&&◌, ◌||◌, nat_lt, nat_le, List, [], ◌∷◌, ◌++◌, length, arith, refl, sym, ◌∙◌, ap, Option, Some, None, inl, inr, append_assoc, add-one}
use Rattle.std.proofs.lemmas.Bool.{cases_lt}
use Rattle.std.proofs.lemmas.Bool.Decides.{nat_tests}
use Rattle.std.specs.List.{list_any, AllByRecursion}
use Rattle.std.specs.List.Sorted.{IsStrictlySortedBy}
use Rattle.std.specs.Ordering.{is_eq}
use Rattle.std.specs.declared.cmp.Ordering.TheVariants.{Less}
use Rattle.std.specs.FinSet as set
use Rattle.std.specs.Map.{lookup, keys_of}
use Rattle.presence_base.specs.declared.dots.Replica.{Replica}
use Rattle.presence_base.specs.declared.dots.Dot.{Dot}
use Rattle.presence_base.specs.Order.{replica_cmp, same_replica, same_dot}
use Rattle.dot_context.specs.Runs.{holds, AreRuns, top_count, above_top}
use Rattle.dot_context.specs.Sets.{DotSet, span, run_dots, set_of, listed}
use Rattle.dot_context.specs.Forms.{Form, cloud_of}
use Rattle.dot_context.proofs.SetFacts.{contains-set_of, any_append, and_false, in_run_dots}
use Rattle.orswot_core.specs.Telling.{range_has}
use Rattle.orswot_core.specs.Checks.{replicas_of}
use Rattle.orswot_core.specs.Full.{dot_of, top_ranges, dots_of_runs, dots_above}
use Rattle.orswot_core.proofs.LoopFacts.{or_none}
use Rattle.orswot_core.proofs.OrderFacts.{replicas_equal}

-- one more count of a run is listed
span_step : (r : Replica) (from to : ℕ) → from < to → span r from (to - from) ≡ dot_of r (from + 1) ∷ span r (from + 1) (to - (from + 1))
span_step r from to lt =
    let one : to - from ≡ suc (to - (from + 1)) = omega arith in
    ap (span r from) one ∙ ap (λ n. dot_of r n ∷ span r n (to - (from + 1))) (sym (add-one from))

pub count_pushed : (done more : List Dot) (r : Replica) (n to : ℕ) → n < to → more ≡ done ++ dot_of r (n + 1) ∷ []
    → more ++ span r (n + 1) (to - (n + 1)) ≡ done ++ span r n (to - n)
count_pushed done more r n to lt e =
    ap (λ l. l ++ span r (n + 1) (to - (n + 1))) e
    ∙ append_assoc done (dot_of r (n + 1) ∷ []) (span r (n + 1) (to - (n + 1)))
    ∙ ap (λ l. done ++ l) (sym (span_step r n to lt))

-- the entries of a replica among replicas in order
Entry : Type 0
Entry = Replica × List (ℕ × ℕ)

-- the test, where the look-up found runs
abbrev pub found_by : (List (ℕ × ℕ) → Bool) → Option (List (ℕ × ℕ)) → Bool
found_by p None = false
found_by p (Some rs) = p rs

none_later : (p : List (ℕ × ℕ) → Bool) (q r : Replica) (es : Form) → AllByRecursion (λ y. replica_cmp r y ≡ Less) (keys_of es) → same_replica q r ≡ true
    → list_any (λ x. same_replica q x.0 && p x.1) es ≡ false
none_later p q r [] h same = refl
none_later p q r (x ∷ xs) h same =
    let apart : same_replica q x.0 ≡ false = ap (λ y. same_replica y x.0) (replicas_equal q r same) ∙ ap is_eq h.0 in
    ap (λ b. (b && p x.1) || list_any (λ y. same_replica q y.0 && p y.1) xs) apart ∙ none_later p q r xs h.1 same

pub any_found : (p : List (ℕ × ℕ) → Bool) (q : Replica) (f : Form) → IsStrictlySortedBy replica_cmp (keys_of f)
    → list_any (λ x. same_replica q x.0 && p x.1) f ≡ found_by p (lookup (same_replica q) f)
unfolding IsStrictlySortedBy
any_found p q [] h = refl
any_found p q (e ∷ es) h =
    pick (same_replica q e.0) e.1 (list_any (λ x. same_replica q x.0 && p x.1) es) (lookup (same_replica q) es) (none_later p q e.0 es h.0) (any_found p q es h.1)
  where
    pick : (same : Bool) (rs : List (ℕ × ℕ)) (rest : Bool) (o : Option (List (ℕ × ℕ))) → (same ≡ true → rest ≡ false) → rest ≡ found_by p o
        → ((same && p rs) || rest) ≡ found_by p (cond same (Some rs) o)
    pick true rs rest o none e = ap (λ b. p rs || b) (none refl) ∙ or_none (p rs)
    pick false rs rest o none e = e

abbrev pub up_to : ℕ → ℕ → Bool
up_to n top = nat_lt 0 n && nat_le n top

ranges_entries : (d : Dot) (f : Form) → list_any (range_has d) (top_ranges f) ≡ list_any (λ x. same_replica d.replica x.0 && up_to d.count (top_count x.1)) f
ranges_entries d [] = refl
ranges_entries d (e ∷ es) = ap (λ b. (same_replica d.replica e.0 && up_to d.count (top_count e.1)) || b) (ranges_entries d es)

-- a dot lies in a range where its count is at most its replica's top
pub in_ranges : (d : Dot) (f : Form) → IsStrictlySortedBy replica_cmp (keys_of f)
    → list_any (range_has d) (top_ranges f) ≡ found_by (λ rs. up_to d.count (top_count rs)) (lookup (same_replica d.replica) f)
in_ranges d f h = ranges_entries d f ∙ any_found (λ rs. up_to d.count (top_count rs)) d.replica f h

some_length : {A : Type 0} (x : A) (xs : List A) → nat_lt 0 (length (x ∷ xs)) ≡ true
some_length x xs = grind (arith, nat_tests)

kept_entry : (d : Dot) (r : Replica) (rs : List (ℕ × ℕ)) (rest : Form)
    → list_any (same_dot d) (dots_of_runs (cond (nat_lt 0 (length rs)) ((r, rs) ∷ rest) rest)) ≡ ((same_replica d.replica r && holds rs d.count) || list_any (same_dot d) (dots_of_runs rest))
kept_entry d r [] rest = ap (λ b. b || list_any (same_dot d) (dots_of_runs rest)) (and_false (same_replica d.replica r))
kept_entry d r (x ∷ xs) rest =
    ap (λ b. list_any (same_dot d) (dots_of_runs (cond b ((r, x ∷ xs) ∷ rest) rest))) (some_length x xs)
    ∙ any_append (same_dot d) (run_dots r (x ∷ xs)) (dots_of_runs rest)
    ∙ ap (λ b. b || list_any (same_dot d) (dots_of_runs rest)) (in_run_dots d r (x ∷ xs))

above_entries : (d : Dot) (f : Form) → list_any (same_dot d) (dots_above f) ≡ list_any (λ x. same_replica d.replica x.0 && holds (above_top x.1) d.count) f
above_entries d [] = refl
above_entries d (e ∷ es) =
    kept_entry d e.0 (above_top e.1) (cloud_of es) ∙ ap (λ b. (same_replica d.replica e.0 && holds (above_top e.1) d.count) || b) (above_entries d es)

-- a dot is listed above the tops where its replica's runs above the first gap hold its count
pub in_above : (d : Dot) (f : Form) → IsStrictlySortedBy replica_cmp (keys_of f)
    → list_any (same_dot d) (dots_above f) ≡ found_by (λ rs. holds (above_top rs) d.count) (lookup (same_replica d.replica) f)
in_above d f h = above_entries d f ∙ any_found (λ rs. holds (above_top rs) d.count) d.replica f h

-- a dot is in the set where its replica's runs hold its count
pub in_set : (d : Dot) (s : DotSet) (f : Form) → set_of f ≡ s → set.contains s d ≡ found_by (λ rs. holds rs d.count) (lookup (same_replica d.replica) f)
in_set d s f e = ap (λ t. set.contains t d) (sym e) ∙ contains-set_of f d ∙ by_found (lookup (same_replica d.replica) f)
  where
    by_found : (o : Option (List (ℕ × ℕ))) → holds (listed o) d.count ≡ found_by (λ rs. holds rs d.count) o
    by_found None = refl
    by_found (Some rs) = refl

-- the replicas of the ranges are those of the form
pub replicas_listed : (f : Form) → replicas_of (top_ranges f) ≡ keys_of f
replicas_listed [] = refl
replicas_listed (e ∷ es) = ap (λ l. e.0 ∷ l) (replicas_listed es)

pub above_all : (low : ℕ) (rs : List (ℕ × ℕ)) → AreRuns (suc low) rs → above_top rs ≡ rs
above_all low [] h = refl
above_all low (r ∷ rs) h =
    let above : nat_lt 0 r.0 ≡ true = grind (arith, nat_tests, h.0) in
    ap (λ b. cond b (r ∷ above_top rs) (above_top rs)) above ∙ ap (λ l. r ∷ l) (above_all r.1 rs h.2)

none_under : (low n : ℕ) (rs : List (ℕ × ℕ)) → AreRuns low rs → n ≤ low → holds rs n ≡ false
none_under low n [] h le = refl
none_under low n (r ∷ rs) h le = grind (arith, nat_tests, none_under (suc r.1) n rs h.2)

-- the counts of longest runs are those up to the top and those above, and none is both
pub counts_parted : (rs : List (ℕ × ℕ)) (n : ℕ) → AreRuns 0 rs → holds (above_top rs) n ≡ (holds rs n && not (up_to n (top_count rs)))
counts_parted [] n h = refl
counts_parted (r ∷ rs) n h = elim (cases_lt 0 r.0) [
  | inl a ↦ first_above a
  | inr a ↦ first_at a
]
  where
    and_all : (b : Bool) → b ≡ (b && true)
    and_all true = refl
    and_all false = refl

    first_above : 0 < r.0 → holds (above_top (r ∷ rs)) n ≡ (holds (r ∷ rs) n && not (up_to n (top_count (r ∷ rs))))
    first_above a =
        let above : nat_lt 0 r.0 ≡ true = grind (arith, nat_tests, a) in
        let no_top : nat_le r.0 0 ≡ false = grind (arith, nat_tests, a) in
        let none : up_to n 0 ≡ false = grind (arith, nat_tests) in
        ap (λ b. holds (cond b (r ∷ above_top rs) (above_top rs)) n) above
        ∙ ap (λ l. holds (r ∷ l) n) (above_all r.1 rs h.2)
        ∙ and_all (holds (r ∷ rs) n)
        ∙ ap (λ b. holds (r ∷ rs) n && not b) (sym none)
        ∙ ap (λ b. holds (r ∷ rs) n && not (up_to n (cond b r.1 0))) (sym no_top)

    parted : (here rest : Bool) → (here ≡ true → rest ≡ false) → rest ≡ ((here || rest) && not here)
    parted true rest f = f refl
    parted false rest f = and_all rest

    bounded : (m top : ℕ) → up_to m top ≡ true → m ≤ suc top
    bounded m top within = grind (arith, nat_tests)

    first_at : r.0 ≤ 0 → holds (above_top (r ∷ rs)) n ≡ (holds (r ∷ rs) n && not (up_to n (top_count (r ∷ rs))))
    first_at a =
        let zero_is : r.0 ≡ 0 = omega arith in
        let above : nat_lt 0 r.0 ≡ false = grind (arith, nat_tests, a) in
        let top : nat_le r.0 0 ≡ true = grind (arith, nat_tests, a) in
        ap (λ b. holds (cond b (r ∷ above_top rs) (above_top rs)) n) above
        ∙ ap (λ l. holds l n) (above_all r.1 rs h.2)
        ∙ parted (up_to n r.1) (holds rs n) (λ within. none_under (suc r.1) n rs h.2 (bounded n r.1 within))
        ∙ ap (λ m. ((nat_lt m n && nat_le n r.1) || holds rs n) && not (up_to n r.1)) (sym zero_is)
        ∙ ap (λ b. holds (r ∷ rs) n && not (up_to n (cond b r.1 0))) (sym top)
