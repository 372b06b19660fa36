-- A delta told in either form: what it covers, and that it is sound.
use Rattle.std.proofs.Common.{◌≡◌, ℕ, ◌<◌, ◌≤◌, Bool, true, false, not, ◌&&◌, ◌||◌, nat_le, List, [], ◌∷◌, ◌++◌, arith, refl, sym, ◌∙◌, ap, subst, suc, ◌^◌}
use Rattle.std.proofs.lemmas.Bool.Decides.{nat_tests}
use Rattle.std.specs.List.{list_any, list_all}
use Rattle.std.specs.Map.{lookup}
use Rattle.std.specs.Ordering.{is_lt}
use Rattle.presence_base.specs.declared.dots.Replica.{Replica}
use Rattle.presence_base.specs.declared.dots.Dot.{Dot}
use Rattle.presence_base.specs.declared.row.Row.{Row}
use Rattle.presence_base.specs.Order.{replica_cmp, same_dot}
use Rattle.dot_context.specs.Runs.{AreRuns}
use Rattle.orswot_core.specs.declared.form.Form.{Form}
use Rattle.orswot_core.specs.declared.form.Form.TheVariants.{One, Two}
use Rattle.orswot_core.specs.Limits.{is_count, is_range}
use Rattle.orswot_core.specs.Telling.{Range, ToldValue, range_has, run_ranges, covers}
use Rattle.orswot_core.specs.Checks.{IsTold, is_forward, may_precede, follow_on, are_in_order}
use Rattle.orswot_core.proofs.LoopFacts.{or_none}
use Rattle.orswot_core.proofs.RunRangeFacts.{same_self}
use Rattle.orswot_core.proofs.RunFacts.{in_run_ranges, any_either_list, and_parts, and_from, or_true}
use Rattle.delta_range.specs.Deltas.{DeltaValue, telling, telling_in, own_dots, older_dots, IsDelta}
use Rattle.delta_range.specs.Laws.{FormsTellTheSame, DeltasAreInOrder}
use Rattle.delta_range.proofs.DeltaFacts.{older_has, delta_told}

-- the ranges of the second form cover what the range and the extras of the first do
covers_as_one : (d : DeltaValue) (q : Dot) → covers (telling_in Two d) q ≡ covers (telling d) q
covers_as_one d q =
    or_none (list_any (range_has q) (run_ranges d.owner d.older ++ own_dots d ∷ []))
    ∙ any_either_list (range_has q) (run_ranges d.owner d.older) (own_dots d ∷ [])
    ∙ ap (λ b. b || list_any (range_has q) (own_dots d ∷ [])) (in_run_ranges q d.owner d.older ∙ sym (older_has d q))
    ∙ turned (list_any (same_dot q) (older_dots d)) (list_any (range_has q) (own_dots d ∷ []))
  where
    turned : (a b : Bool) → (a || b) ≡ (b || a)
    turned true true = refl
    turned true false = refl
    turned false true = refl
    turned false false = refl

covers_in : (form : Form) (d : DeltaValue) (q : Dot) → covers (telling_in form d) q ≡ covers (telling d) q
covers_in One d q = refl
covers_in Two d q = covers_as_one d q

rows_in : (form : Form) (d : DeltaValue) → (telling_in form d).live ≡ d.live
rows_in One d = refl
rows_in Two d = refl

pub tells_the_same : FormsTellTheSame
tells_the_same form other d q = (covers_in form d q ∙ sym (covers_in other d q), ap (λ rows. lookup (same_dot q) rows) (rows_in form d ∙ sym (rows_in other d)))

-- what a delta tells in either form is sound
all_append : {A : Type 0} (p : A → Bool) (xs ys : List A) → list_all p xs ≡ true → list_all p ys ≡ true → list_all p (xs ++ ys) ≡ true
all_append p [] ys h k = k
all_append p (x ∷ xs) ys h k =
    let parts = and_parts (p x) (list_all p xs) h in
    and_from (p x) (list_all p (xs ++ ys)) parts.0 (all_append p xs ys parts.1 k)

le_test : (m n : ℕ) → m ≤ n → nat_le m n ≡ true
le_test m n h = grind (arith, nat_tests)

runs_forward : (r : Replica) (low : ℕ) (rs : List (ℕ × ℕ)) → AreRuns low rs → list_all is_forward (run_ranges r rs) ≡ true
runs_forward r low [] h = refl
runs_forward r low (x ∷ xs) h = and_from (is_forward (r, x.0, x.1)) (list_all is_forward (run_ranges r xs)) (le_test x.0 x.1 (omega (arith, h.1))) (runs_forward r (suc x.1) xs h.2)

runs_limited : (r : Replica) (from low : ℕ) (rs : List (ℕ × ℕ)) → AreRuns low rs → list_all (λ x. nat_le x.1 from) rs ≡ true → is_count r.incarnation ≡ true → nat_le from (2 ^ 62) ≡ true
    → list_all is_range (run_ranges r rs) ≡ true
runs_limited r from low [] h below owner limit = refl
runs_limited r from low (x ∷ xs) h below owner limit =
    let parts = and_parts (nat_le x.1 from) (list_all (λ y. nat_le y.1 from) xs) below in
    let end : nat_le x.1 (2 ^ 62) ≡ true = through x.1 from (2 ^ 62) parts.0 limit in
    let start : nat_le x.0 (2 ^ 62) ≡ true = through x.0 x.1 (2 ^ 62) (le_test x.0 x.1 (omega (arith, h.1))) end in
    and_from (is_range (r, x.0, x.1)) (list_all is_range (run_ranges r xs))
    (and_from (is_count r.incarnation) (nat_le x.0 (2 ^ 62) && nat_le x.1 (2 ^ 62)) owner (and_from (nat_le x.0 (2 ^ 62)) (nat_le x.1 (2 ^ 62)) start end))
    (runs_limited r from (suc x.1) xs h.2 parts.1 owner limit)
  where
    through : (a b c : ℕ) → nat_le a b ≡ true → nat_le b c ≡ true → nat_le a c ≡ true
    through a b c h k = grind (arith, nat_tests)

covered_alike : (t u : ToldValue) → ((q : Dot) → covers t q ≡ covers u q) → (rows : List (Dot × Row)) → list_all (λ x. covers u x.0) rows ≡ true → list_all (λ x. covers t x.0) rows ≡ true
covered_alike t u same [] h = refl
covered_alike t u same (x ∷ xs) h =
    let parts = and_parts (covers u x.0) (list_all (λ y. covers u y.0) xs) h in
    and_from (covers t x.0) (list_all (λ y. covers t y.0) xs) (same x.0 ∙ parts.0) (covered_alike t u same xs parts.1)

delta_told_in_runs : (d : DeltaValue) → IsDelta d → IsTold (telling_in Two d)
delta_told_in_runs d h =
    let one = delta_told d h in
    let limits = and_parts (is_count d.owner.incarnation) (nat_le d.from (2 ^ 62) && nat_le d.to (2 ^ 62)) h.range in
    let from = (and_parts (nat_le d.from (2 ^ 62)) (nat_le d.to (2 ^ 62)) limits.1).0 in
    record {
      forward = all_append is_forward (run_ranges d.owner d.older) (own_dots d ∷ []) (runs_forward d.owner 0 d.older h.runs) one.forward;
      ranges = all_append is_range (run_ranges d.owner d.older) (own_dots d ∷ []) (runs_limited d.owner d.from 0 d.older h.runs h.below limits.0 from) one.ranges;
      extras = refl;
      rows = h.rows;
      covered = covered_alike (telling_in Two d) (telling d) (covers_as_one d) d.live one.covered;
      once = h.once;
    }

pub delta_told_in : (form : Form) (d : DeltaValue) → IsDelta d → IsTold (telling_in form d)
delta_told_in One d h = delta_told d h
delta_told_in Two d h = delta_told_in_runs d h

-- the parts that are put together are what a delta tells in the second form
pub parts_told_in_runs : (d : DeltaValue) → IsDelta d → (ranges : List Range) (extras : List Dot) (live : List (Dot × Row)) (owner : Replica) (from to : ℕ) (older : List (ℕ × ℕ)) (rows : List (Dot × Row))
    → ranges ≡ run_ranges owner older ++ (owner, from, to) ∷ [] → extras ≡ [] → live ≡ rows → owner ≡ d.owner → from ≡ d.from → to ≡ d.to → older ≡ d.older → rows ≡ d.live
    → IsTold (record { ranges = ranges; extras = extras; live = live })
parts_told_in_runs d h ranges extras live owner from to older rows is_ranges is_extras is_live e-owner e-from e-to e-older e-rows =
    let together : record { ranges = ranges; extras = extras; live = live } ≡ telling_in Two d =
    (λ i. record { ranges = is_ranges i; extras = is_extras i; live = is_live i })
    ∙ (λ i. record { ranges = run_ranges (e-owner i) (e-older i) ++ (e-owner i, e-from i, e-to i) ∷ []; extras = []; live = e-rows i }) in
    subst IsTold (sym together) (delta_told_in_runs d h)

-- and its ranges are in order
may_follow : (r : Replica) (a b c d : ℕ) → nat_le a c ≡ true → nat_le b c ≡ true → may_precede (r, a, b) (r, c, d) ≡ true
may_follow r a b c d h k =
    ap (λ e. is_lt (replica_cmp r r) || (e && (nat_le a c && nat_le b c))) (same_self r)
    ∙ ap (λ e. is_lt (replica_cmp r r) || e) (and_from (nat_le a c) (nat_le b c) h k)
    ∙ or_true (is_lt (replica_cmp r r))

runs_follow : (r : Replica) (x : ℕ × ℕ) (xs : List (ℕ × ℕ)) (from to : ℕ) → x.0 < x.1 → AreRuns (suc x.1) xs → list_all (λ y. nat_le y.1 from) (x ∷ xs) ≡ true
    → follow_on (r, x.0, x.1) (run_ranges r xs ++ (r, from, to) ∷ []) ≡ true
runs_follow r x [] from to lt h below =
    let end = (and_parts (nat_le x.1 from) true below).0 in
    and_from (may_precede (r, x.0, x.1) (r, from, to)) true (may_follow r x.0 x.1 from to (through x.0 x.1 from lt end) end) refl
  where
    through : (a b c : ℕ) → a < b → nat_le b c ≡ true → nat_le a c ≡ true
    through a b c k e = grind (arith, nat_tests)
runs_follow r x (y ∷ ys) from to lt h below =
    let parts = and_parts (nat_le x.1 from) (list_all (λ z. nat_le z.1 from) (y ∷ ys)) below in
    and_from (may_precede (r, x.0, x.1) (r, y.0, y.1)) (follow_on (r, y.0, y.1) (run_ranges r ys ++ (r, from, to) ∷ []))
    (may_follow r x.0 x.1 y.0 y.1 (le_test x.0 y.0 (omega (arith, lt, h.0))) (le_test x.1 y.0 (omega (arith, h.0))))
    (runs_follow r y ys from to h.1 h.2 parts.1)

runs_in_order : (r : Replica) (rs : List (ℕ × ℕ)) (from to : ℕ) → AreRuns 0 rs → list_all (λ y. nat_le y.1 from) rs ≡ true → are_in_order (run_ranges r rs ++ (r, from, to) ∷ []) ≡ true
runs_in_order r [] from to h below = refl
runs_in_order r (x ∷ xs) from to h below = runs_follow r x xs from to h.1 h.2 below

pub deltas_in_order : DeltasAreInOrder
deltas_in_order One d h = refl
deltas_in_order Two d h = ap not (runs_in_order d.owner d.older d.from d.to h.runs h.below)
