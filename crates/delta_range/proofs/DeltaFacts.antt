-- What a delta keeps, as a told value and as a value.
use Rattle.std.proofs.Common.{◌≡◌, ℕ, ◌^◌, ◌-◌, ◌<◌, ◌≤◌, Bool, true, false, ◌&&◌, ◌||◌, nat_le, nat_lt, nat_eq, suc, List, [], ◌∷◌, ◌++◌, length, map, refl, sym, ◌∙◌, ap, subst, arith, Some}
use Rattle.std.proofs.lemmas.Bool.Decides.{nat_tests}
use Rattle.std.specs.List.{list_all, list_any}
use Rattle.presence_base.specs.declared.dots.Replica.{Replica}
use Rattle.presence_base.specs.declared.dots.Dot.{Dot}
use Rattle.presence_base.specs.declared.row.Row.{Row}
use Rattle.presence_base.specs.Names.{guarded}
use Rattle.presence_base.specs.Order.{same_replica, same_dot}
use Rattle.dot_context.specs.Runs.{in_run, holds, AreLong}
use Rattle.dot_context.specs.Sets.{run_dots}
use Rattle.dot_context.proofs.SetFacts.{in_run_dots}
use Rattle.orswot_core.specs.Limits.{is_count, is_dot, is_range}
use Rattle.orswot_core.specs.Telling.{Range, ToldValue, range_has, covers}
use Rattle.orswot_core.specs.Checks.{IsTold, is_forward}
use Rattle.orswot_core.proofs.OrderFacts.{dots_equal, replicas_equal, same_itself}
use Rattle.delta_range.specs.Deltas.{DeltaValue, telling, own_dots, older_dots, own_range, older_ranges, ends_of, older_told, run_of, delta_of, is_older, is_older_range, is_delta, IsDelta}
use Rattle.delta_range.specs.Longest.{longest}
use Rattle.delta_range.proofs.BoolFacts.{both, and_both}
use Rattle.delta_range.proofs.RunFacts.{longest_runs, ends_longest, long_append}

-- ---- lists of dots

-- what holds of each dot that is found holds of all
pub all_found : (p : Dot → Bool) (ds : List Dot) → ((q : Dot) → list_any (same_dot q) ds ≡ true → p q ≡ true) → list_all p ds ≡ true
all_found p [] f = refl
all_found p (d ∷ ds) f =
    and_both (p d) (list_all p ds) (f d (ap (λ b. b || list_any (same_dot d) ds) (same_itself d))) (all_found p ds (λ q h. f q (ap (λ b. same_dot q d || b) h ∙ or_true (same_dot q d))))
  where
    or_true : (b : Bool) → (b || true) ≡ true
    or_true true = refl
    or_true false = refl

-- what holds of all holds of one that is found
pub found_has : (p : Dot → Bool) (q : Dot) (ds : List Dot) → list_all p ds ≡ true → list_any (same_dot q) ds ≡ true → p q ≡ true
found_has p q [] h e = absurd (cc)
found_has p q (d ∷ ds) h e =
    let parts = both (p d) (list_all p ds) h in
    pick (same_dot q d) (list_any (same_dot q) ds) e (λ same. ap p (dots_equal q d same) ∙ parts.0) (found_has p q ds parts.1)
  where
    pick : {Q : Type 0} (a b : Bool) → (a || b) ≡ true → (a ≡ true → Q) → (b ≡ true → Q) → Q
    pick true b h f g = f refl
    pick false b h f g = g h

pub all_at : {A : Type 0} (p q : A → Bool) → ((x : A) → p x ≡ true → q x ≡ true) → (xs : List A) → list_all p xs ≡ true → list_all q xs ≡ true
all_at p q f [] h = refl
all_at p q f (x ∷ xs) h = let parts = both (p x) (list_all p xs) h in and_both (q x) (list_all q xs) (f x parts.0) (all_at p q f xs parts.1)

-- ---- the older dots

pub older_has : (d : DeltaValue) (q : Dot) → list_any (same_dot q) (older_dots d) ≡ (same_replica q.replica d.owner && holds d.older q.count)
older_has d q = in_run_dots q d.owner d.older

-- a count of the runs is at most where they end, and above 0
pub held_below : (m n : ℕ) (rs : List (ℕ × ℕ)) → list_all (λ r. nat_le r.1 m) rs ≡ true → holds rs n ≡ true → (nat_lt 0 n ≡ true) × (nat_le n m ≡ true)
held_below m n [] h e = absurd (cc)
held_below m n (r ∷ rs) h e =
    let parts = both (nat_le r.1 m) (list_all (λ q. nat_le q.1 m) rs) h in
    pick (in_run r n) (holds rs n) e (λ f. let ends = both (nat_lt r.0 n) (nat_le n r.1) f in (some r.0 n ends.0, through n r.1 m ends.1 parts.0)) (held_below m n rs parts.1)
  where
    pick : {Q : Type 0} (a b : Bool) → (a || b) ≡ true → (a ≡ true → Q) → (b ≡ true → Q) → Q
    pick true b h f g = f refl
    pick false b h f g = g h

    some : (a n : ℕ) → nat_lt a n ≡ true → nat_lt 0 n ≡ true
    some a n h = grind (arith, nat_tests)

    through : (a b c : ℕ) → nat_le a b ≡ true → nat_le b c ≡ true → nat_le a c ≡ true
    through a b c h e = grind (arith, nat_tests)

pub older_if : (d : DeltaValue) → IsDelta d → (q : Dot) → list_any (same_dot q) (older_dots d) ≡ true → is_older d.owner d.from q ≡ true
older_if d h q e =
    let parts = both (same_replica q.replica d.owner) (holds d.older q.count) (sym (older_has d q) ∙ e) in
    and_both (same_replica q.replica d.owner) (nat_le q.count d.from) parts.0 ((held_below d.from q.count d.older h.below parts.1).1)

-- ---- as a told value

is_owned : (d : DeltaValue) → IsDelta d → (q : Dot) → same_replica q.replica d.owner ≡ true → is_count q.replica.incarnation ≡ true
is_owned d h q e = ap (λ (r : Replica). is_count r.incarnation) (replicas_equal q.replica d.owner e) ∙ (both (is_count d.owner.incarnation) (nat_le d.from (2 ^ 62) && nat_le d.to (2 ^ 62)) h.range).0

counted : (n m : ℕ) → nat_lt 0 n ≡ true → nat_le n m ≡ true → nat_le m (2 ^ 62) ≡ true → is_count n ≡ true
counted n m f g h = and_both (nat_le 1 n) (nat_le n (2 ^ 62)) (some n f) (through n m (2 ^ 62) g h)
  where
    some : (n : ℕ) → nat_lt 0 n ≡ true → nat_le 1 n ≡ true
    some n f = grind (arith, nat_tests)

    through : (a b c : ℕ) → nat_le a b ≡ true → nat_le b c ≡ true → nat_le a c ≡ true
    through a b c h e = grind (arith, nat_tests)

older_are_dots : (d : DeltaValue) → IsDelta d → list_all is_dot (older_dots d) ≡ true
older_are_dots d h = all_found is_dot (older_dots d) (λ q e.
    let parts = both (same_replica q.replica d.owner) (holds d.older q.count) (sym (older_has d q) ∙ e) in
    let ends = held_below d.from q.count d.older h.below parts.1 in
    let limits = both (is_count d.owner.incarnation) (nat_le d.from (2 ^ 62) && nat_le d.to (2 ^ 62)) h.range in
    and_both (is_count q.replica.incarnation) (is_count q.count) (is_owned d h q parts.0) (counted q.count d.from ends.0 ends.1 ((both (nat_le d.from (2 ^ 62)) (nat_le d.to (2 ^ 62)) limits.1).0)))

-- what a delta tells is sound
pub delta_told : (d : DeltaValue) → IsDelta d → IsTold (telling d)
delta_told d h = record {
  forward = and_both (nat_le d.from d.to) true (le_test d.from d.to h.forward) refl;
  ranges = and_both (is_range (own_dots d)) true h.range refl;
  extras = older_are_dots d h;
  rows = h.rows;
  covered = all_at (λ x. range_has x.0 (own_dots d)) (λ x. covers (telling d) x.0) (λ x e. ap (λ c. (c || false) || list_any (same_dot x.0) (older_dots d)) e) d.live h.within;
  once = h.once;
}
  where
    le_test : (m n : ℕ) → m ≤ n → nat_le m n ≡ true
    le_test m n h = grind (arith, nat_tests)

-- ---- of a told value

-- the last range stands behind those before it
pub range_behind : (gs : List Range) → nat_lt 0 (length gs) ≡ true → older_ranges gs ++ own_range gs ∷ [] ≡ gs
range_behind [] e = absurd (cc)
range_behind (g ∷ []) e = refl
range_behind (g ∷ h ∷ gs) e = ap (λ l. g ∷ l) (range_behind (h ∷ gs) (some (length gs)))
  where
    some : (n : ℕ) → nat_lt 0 (suc n) ≡ true
    some n = grind (arith, nat_tests)

own_behind : (gs : List Range) (g : Range) → own_range (gs ++ g ∷ []) ≡ g
own_behind [] g = refl
own_behind (x ∷ []) g = refl
own_behind (x ∷ y ∷ gs) g = own_behind (y ∷ gs) g

older_before : (gs : List Range) (g : Range) → older_ranges (gs ++ g ∷ []) ≡ gs
older_before [] g = refl
older_before (x ∷ []) g = refl
older_before (x ∷ y ∷ gs) g = ap (λ l. x ∷ l) (older_before (y ∷ gs) g)

pub own_is : (all before : List Range) (g : Range) → all ≡ before ++ g ∷ [] → own_range all ≡ g
own_is all before g e = ap own_range e ∙ own_behind before g

pub older_is : (all before : List Range) (g : Range) → all ≡ before ++ g ∷ [] → older_ranges all ≡ before
older_is all before g e = ap older_ranges e ∙ older_before before g

pub some_ranges : (all before : List Range) (g : Range) → all ≡ before ++ g ∷ [] → nat_lt 0 (length all) ≡ true
some_ranges all before g e = ap (λ l. nat_lt 0 (length l)) e ∙ some before
  where
    some : (gs : List Range) → nat_lt 0 (length (gs ++ g ∷ [])) ≡ true
    some [] = refl
    some (x ∷ gs) = positive (length (gs ++ g ∷ []))
      where
        positive : (n : ℕ) → nat_lt 0 (suc n) ≡ true
        positive n = grind (arith, nat_tests)

last_holds : {A : Type 0} (p : A → Bool) (xs : List A) (x : A) → list_all p (xs ++ x ∷ []) ≡ true → p x ≡ true
last_holds p [] x h = (both (p x) true h).0
last_holds p (y ∷ ys) x h = last_holds p ys x ((both (p y) (list_all p (ys ++ x ∷ [])) h).1)

pub all_both : {A : Type 0} (p : A → Bool) (xs ys : List A) → list_all p xs ≡ true → list_all p ys ≡ true → list_all p (xs ++ ys) ≡ true
all_both p [] ys h k = k
all_both p (x ∷ xs) ys h k =
    let parts = both (p x) (list_all p xs) h in
    and_both (p x) (list_all p (xs ++ ys)) parts.0 (all_both p xs ys parts.1 k)

-- the ends of older ranges are runs below the start
pub range_runs_long : (owner : Replica) (from : ℕ) (gs : List Range) → list_all (is_older_range owner from) gs ≡ true → AreLong (map ends_of gs)
range_runs_long owner from [] h = tt
range_runs_long owner from (g ∷ gs) h =
    let parts = both (is_older_range owner from g) (list_all (is_older_range owner from) gs) h in
    let ends = both (nat_lt g.1 g.2) (nat_le g.2 from) ((both (same_replica g.0 owner) (nat_lt g.1 g.2 && nat_le g.2 from) parts.0).1) in
    (up g.1 g.2 ends.0, range_runs_long owner from gs parts.1)
  where
    up : (m n : ℕ) → nat_lt m n ≡ true → m < n
    up m n k = grind (arith, nat_tests)

range_runs_below : (owner : Replica) (from : ℕ) (gs : List Range) → list_all (is_older_range owner from) gs ≡ true → list_all (λ r. nat_le r.1 from) (map ends_of gs) ≡ true
range_runs_below owner from [] h = refl
range_runs_below owner from (g ∷ gs) h =
    let parts = both (is_older_range owner from g) (list_all (is_older_range owner from) gs) h in
    let ends = both (nat_lt g.1 g.2) (nat_le g.2 from) ((both (same_replica g.0 owner) (nat_lt g.1 g.2 && nat_le g.2 from) parts.0).1) in
    and_both (nat_le g.2 from) (list_all (λ r. nat_le r.1 from) (map ends_of gs)) ends.1 (range_runs_below owner from gs parts.1)

-- what a told value that is a delta keeps
pub record HasDeltaForm (t : ToldValue) : Type 0 where
  pub some : nat_lt 0 (length t.ranges) ≡ true
  pub ranges : list_all (is_older_range (own_range t.ranges).0 (own_range t.ranges).1) (older_ranges t.ranges) ≡ true
  pub extras : list_all (is_older (own_range t.ranges).0 (own_range t.ranges).1) t.extras ≡ true
  pub rows : list_all (λ x. range_has x.0 (own_range t.ranges)) t.live ≡ true

pub delta_form : (t : ToldValue) → is_delta t ≡ true → HasDeltaForm t
delta_form t h =
    let a = both (nat_lt 0 (length t.ranges)) (list_all (is_older_range (own_range t.ranges).0 (own_range t.ranges).1) (older_ranges t.ranges)
    && (list_all (is_older (own_range t.ranges).0 (own_range t.ranges).1) t.extras && list_all (λ x. range_has x.0 (own_range t.ranges)) t.live)) h in
    let b = both (list_all (is_older_range (own_range t.ranges).0 (own_range t.ranges).1) (older_ranges t.ranges))
    (list_all (is_older (own_range t.ranges).0 (own_range t.ranges).1) t.extras && list_all (λ x. range_has x.0 (own_range t.ranges)) t.live) a.1 in
    let e = both (list_all (is_older (own_range t.ranges).0 (own_range t.ranges).1) t.extras) (list_all (λ x. range_has x.0 (own_range t.ranges)) t.live) b.1 in
    record { some = a.0; ranges = b.0; extras = e.0; rows = e.1 }

-- the run of a dot has its count alone
pub run_has : (n m : ℕ) → nat_le 1 m ≡ true → (nat_lt (m - 1) n && nat_le n m) ≡ nat_eq n m
run_has n m h = grind (arith, nat_tests)

pub dot_runs_long : (ds : List Dot) → list_all is_dot ds ≡ true → AreLong (map run_of ds)
dot_runs_long [] h = tt
dot_runs_long (d ∷ ds) h =
    let parts = both (is_dot d) (list_all is_dot ds) h in
    let counts = both (is_count d.replica.incarnation) (is_count d.count) parts.0 in
    (long d.count ((both (nat_le 1 d.count) (nat_le d.count (2 ^ 62)) counts.1).0), dot_runs_long ds parts.1)
  where
    long : (n : ℕ) → nat_le 1 n ≡ true → n - 1 < n
    long n h = grind (arith, nat_tests)

dot_runs_below : (owner : Replica) (from : ℕ) (ds : List Dot) → list_all (is_older owner from) ds ≡ true → list_all (λ r. nat_le r.1 from) (map run_of ds) ≡ true
dot_runs_below owner from [] h = refl
dot_runs_below owner from (d ∷ ds) h =
    let parts = both (is_older owner from d) (list_all (is_older owner from) ds) h in
    and_both (nat_le d.count from) (list_all (λ r. nat_le r.1 from) (map run_of ds)) ((both (same_replica d.replica owner) (nat_le d.count from) parts.0).1) (dot_runs_below owner from ds parts.1)

-- it has that form where the last of its ranges and those before it say so
abbrev pub form_by : ToldValue → Range → List Range → Bool
form_by t g gs = list_all (is_older_range g.0 g.1) gs && (list_all (is_older g.0 g.1) t.extras && list_all (λ x. range_has x.0 g) t.live)

pub form_behind : (t : ToldValue) (before : List Range) (g : Range) → t.ranges ≡ before ++ g ∷ [] → is_delta t ≡ form_by t g before
form_behind t before g e =
    ap (λ b. b && form_by t (own_range t.ranges) (older_ranges t.ranges)) (some_ranges t.ranges before g e)
    ∙ ap (λ o. form_by t o (older_ranges t.ranges)) (own_is t.ranges before g e)
    ∙ ap (λ gs. form_by t g gs) (older_is t.ranges before g e)

-- as far as each part of that form was looked at
module _ (t : ToldValue) (before : List Range) (g : Range) (e : t.ranges ≡ before ++ g ∷ []) (ranges : list_all (is_older_range g.0 g.1) before ≡ true) where
  pub form_rest : (extras : List Dot) → extras ≡ t.extras → (b : Bool) → b ≡ list_all (is_older g.0 g.1) extras → b ≡ false → b ≡ is_delta t
  form_rest extras same b is none =
      none ∙ ap (λ x. x && list_all (λ y. range_has y.0 g) t.live) (sym none ∙ is ∙ ap (list_all (is_older g.0 g.1)) same)
      ∙ ap (λ x. x && (list_all (is_older g.0 g.1) t.extras && list_all (λ y. range_has y.0 g) t.live)) (sym ranges) ∙ sym (form_behind t before g e)

  pub form_whole : (extras : List Dot) (live : List (Dot × Row)) → extras ≡ t.extras → live ≡ t.live → list_all (is_older g.0 g.1) extras ≡ true
      → (b : Bool) → b ≡ list_all (λ x. range_has x.0 g) live → b ≡ is_delta t
  form_whole extras live same same_rows all b is =
      is ∙ ap (list_all (λ x. range_has x.0 g)) same_rows
      ∙ ap (λ x. x && list_all (λ y. range_has y.0 g) t.live) (sym all ∙ ap (list_all (is_older g.0 g.1)) same)
      ∙ ap (λ x. x && (list_all (is_older g.0 g.1) t.extras && list_all (λ y. range_has y.0 g) t.live)) (sym ranges) ∙ sym (form_behind t before g e)

pub form_none : (t : ToldValue) (before : List Range) (g : Range) → t.ranges ≡ before ++ g ∷ [] → (b : Bool) → b ≡ list_all (is_older_range g.0 g.1) before → b ≡ false → b ≡ is_delta t
form_none t before g e b is none =
    none ∙ ap (λ x. x && (list_all (is_older g.0 g.1) t.extras && list_all (λ y. range_has y.0 g) t.live)) (sym none ∙ is) ∙ sym (form_behind t before g e)

pub older_long : (t : ToldValue) → is_delta t ≡ true → IsTold t → AreLong (older_told t)
older_long t h told = long_append (map run_of t.extras) (map ends_of (older_ranges t.ranges)) (dot_runs_long t.extras told.extras)
    (range_runs_long (own_range t.ranges).0 (own_range t.ranges).1 (older_ranges t.ranges) (delta_form t h).ranges)

pub delta_keeps : (t : ToldValue) → is_delta t ≡ true → IsTold t → IsDelta (delta_of t)
delta_keeps t h told =
    let form = delta_form t h in
    let behind = range_behind t.ranges form.some in
    record {
      range = last_holds is_range (older_ranges t.ranges) (own_range t.ranges) (ap (list_all is_range) behind ∙ told.ranges);
      forward = le_of (own_range t.ranges).1 (own_range t.ranges).2 (last_holds is_forward (older_ranges t.ranges) (own_range t.ranges) (ap (list_all is_forward) behind ∙ told.forward));
      runs = longest_runs (older_told t) (older_long t h told);
      below = ends_longest (own_range t.ranges).1 (older_told t) (all_both (λ r. nat_le r.1 (own_range t.ranges).1) (map run_of t.extras) (map ends_of (older_ranges t.ranges))
          (dot_runs_below (own_range t.ranges).0 (own_range t.ranges).1 t.extras form.extras) (range_runs_below (own_range t.ranges).0 (own_range t.ranges).1 (older_ranges t.ranges) form.ranges));
      rows = told.rows;
      within = form.rows;
      once = told.once;
    }
  where
    le_of : (m n : ℕ) → nat_le m n ≡ true → m ≤ n
    le_of m n h = grind (arith, nat_tests)

-- the parts that are put together are what a delta tells
pub parts_told : (d : DeltaValue) → IsDelta d → (ranges : List Range) (extras : List Dot) (live : List (Dot × Row)) (owner : Replica) (from to : ℕ) (older : List (ℕ × ℕ)) (rows : List (Dot × Row))
    → ranges ≡ (owner, from, to) ∷ [] → extras ≡ run_dots owner older → live ≡ rows → owner ≡ d.owner → from ≡ d.from → to ≡ d.to → older ≡ d.older → rows ≡ d.live
    → IsTold (record { ranges = ranges; extras = extras; live = live })
parts_told d h ranges extras live owner from to older rows is_ranges is_extras is_live e-owner e-from e-to e-older e-rows =
    let together : record { ranges = ranges; extras = extras; live = live } ≡ telling d =
    (λ i. record { ranges = is_ranges i; extras = is_extras i; live = is_live i }) ∙ (λ i. record { ranges = (e-owner i, e-from i, e-to i) ∷ []; extras = run_dots (e-owner i) (e-older i); live = e-rows i }) in
    subst IsTold (sym together) (delta_told d h)

-- the runs of a told value that is a delta
pub runs_made : (t : ToldValue) → (g : Range) (before : List Range) (extras : List Dot) (dots runs : List (ℕ × ℕ)) → t.ranges ≡ before ++ g ∷ []
    → extras ≡ t.extras → dots ≡ map run_of extras → runs ≡ dots ++ map ends_of before → runs ≡ older_told t
runs_made t g before extras dots runs e-ranges same is_dots is_runs =
    is_runs ∙ ap (λ rs. rs ++ map ends_of before) (is_dots ∙ ap (map run_of) same)
    ∙ ap (λ gs. map run_of t.extras ++ map ends_of gs) (sym (older_is t.ranges before g e-ranges))

-- the parts that are made of it
pub parts_made : (t : ToldValue) → (g : Range) (before : List Range) (older : List (ℕ × ℕ)) (live rows : List (Dot × Row)) (runs : List (ℕ × ℕ))
    → t.ranges ≡ before ++ g ∷ [] → older ≡ longest runs → runs ≡ older_told t → live ≡ rows → rows ≡ t.live
    → ◌≡◌ {A = DeltaValue} (record { owner = g.0; from = g.1; to = g.2; older = older; live = live }) (delta_of t)
parts_made t g before older live rows runs e-ranges e-older is_runs is_live e-rows =
    let one : g ≡ own_range t.ranges = sym (own_is t.ranges before g e-ranges) in
    let made : older ≡ longest (older_told t) = e-older ∙ ap longest is_runs in
    let rows_made : live ≡ t.live = is_live ∙ e-rows in
    λ i. record { owner = (one i).0; from = (one i).1; to = (one i).2; older = made i; live = rows_made i }

pub delta_given : (t : ToldValue) → is_delta t ≡ true → (d : DeltaValue) → d ≡ delta_of t → Some d ≡ guarded (is_delta t) (delta_of t)
delta_given t h d e = ap (λ (x : DeltaValue). Some x) e ∙ ap (λ b. guarded b (delta_of t)) (sym h)
