-- The full told value: what a form lists is all that is told of the set, and what follows of it.
use Rattle.std.proofs.Common.{◌≡◌, ℕ, ◌+◌, ◌<◌, ◌≤◌, suc, Bool, T, true, false, not, cond, ◌&&◌, ◌||◌, nat_lt, nat_le, List, [], ◌∷◌, length, map as each_of, arith, refl, sym, ◌∙◌, ap, subst, zero, Option, Some, None, is_some, true≢false, Ordering}
use Rattle.std.proofs.lemmas.Bool.Decides.{nat_tests}
use Rattle.std.proofs.lemmas.List.Elements.{All-from_recursion, recursion_from_All}
use Rattle.std.proofs.lemmas.Map.Made.{is_some-lookup}
use Rattle.std.specs.List.{All, AllByRecursion, list_any, list_all}
use Rattle.std.specs.List.Sorted.{IsStrictlySortedBy}
use Rattle.std.specs.Ordering.{is_eq, is_lt, eq_by_cmp}
use Rattle.std.specs.declared.cmp.Ordering.TheVariants.{Less, Equal, Greater}
use Rattle.std.specs.Cmp.{IsTotalOrder, eq_by_cmp_equiv}
use Rattle.std.specs.FinSet as set
use Rattle.std.specs.FinMap as map
use Rattle.std.specs.FinMap.Entries.{is_sorted, below_all, same_entries}
use Rattle.std.specs.Map.{lookup, keys_of}
use Rattle.presence_base.specs.declared.dots.Replica.{Replica}
use Rattle.presence_base.specs.declared.dots.TheConstants.{MAX_COUNT}
use Rattle.presence_base.specs.declared.dots.Dot.{Dot}
use Rattle.presence_base.specs.declared.row.Row.{Row}
use Rattle.presence_base.specs.Order.{replica_cmp, dot_cmp, same_replica, same_dot}
use Rattle.dot_context.specs.Runs.{holds, AreRuns, top_count, above_top}
use Rattle.dot_context.specs.Sets.{DotSet}
use Rattle.dot_context.specs.Forms.{Form, IsForm, IfFormed, tops_of, cloud_of}
use Rattle.dot_context.proofs.FormFacts.{held_within, only_form}
use Rattle.dot_context.proofs.SetFacts.{top_held, next_not_held}
use Rattle.dot_context.proofs.LoopFacts.{loose}
use Rattle.orswot_core.specs.Limits.{is_count, is_dot, is_row, is_range}
use Rattle.orswot_core.specs.Telling.{Range, ToldValue, range_has, covers, live_row}
use Rattle.orswot_core.specs.Checks.{IsTold, has_repeat, replicas_of, dots_of, is_forward}
use Rattle.orswot_core.specs.Sets.{DotRows, LiveRows, rows_of, is_sound, IsSound}
use Rattle.orswot_core.specs.Full.{dot_of, up_to_top, top_ranges, dots_of_runs, dots_above, IsTopRange, IsFull}
use Rattle.orswot_core.proofs.OrderFacts.{replica_total, dot_total, dot_antisymmetric, replicas_equal, same_itself}
use Rattle.orswot_core.proofs.RowFacts.{find_is}
use Rattle.orswot_core.proofs.ListedFacts.{found_by, up_to, in_ranges, in_above, in_set, replicas_listed, counts_parted}
use Rattle.orswot_core.proofs.OrderedFacts.{each_weaker, above_sorted}

abbrev Runs : Type 0
Runs = Replica × List (ℕ × ℕ)

-- where keys are in order, each entry is the one that a look-up of its key finds
each_found : {K X : Type 0} {R : K → K → Ordering} → IsTotalOrder R → (es : List (K × X)) → IsStrictlySortedBy R (keys_of es) → AllByRecursion (λ (e : K × X). lookup (eq_by_cmp R e.0) es ≡ Some e.1) es
unfolding IsStrictlySortedBy
each_found o [] h = tt
each_found {K = K} {X = X} {R = R} o (e ∷ es) h = (
  ap (λ b. cond b (Some e.1) (lookup (eq_by_cmp R e.0) es)) ((eq_by_cmp_equiv o).refl e.0),
  found_later es h.0 (each_found o es h.1),
)
  where
    found_later : (xs : List (K × X)) → AllByRecursion (λ y. R e.0 y ≡ Less) (keys_of xs) → AllByRecursion (λ (x : K × X). lookup (eq_by_cmp R x.0) es ≡ Some x.1) xs
        → AllByRecursion (λ (x : K × X). cond (eq_by_cmp R x.0 e.0) (Some e.1) (lookup (eq_by_cmp R x.0) es) ≡ Some x.1) xs
    found_later [] above found = tt
    found_later (x ∷ xs) above found = (
      ap (λ b. cond b (Some e.1) (lookup (eq_by_cmp R x.0) es)) ((eq_by_cmp_equiv o).symm x.0 e.0 ∙ ap is_eq above.0) ∙ found.0,
      found_later xs above.1 found.1,
    )

pub no_repeat : {K : Type 0} (R : K → K → Ordering) (ks : List K) → IsStrictlySortedBy R ks → has_repeat (eq_by_cmp R) ks ≡ false
unfolding IsStrictlySortedBy
no_repeat R [] h = refl
no_repeat {K = K} R (k ∷ ks) h = ap (λ b. b || has_repeat (eq_by_cmp R) ks) (none_tied ks h.0) ∙ no_repeat R ks h.1
  where
    none_tied : (xs : List K) → AllByRecursion (λ y. R k y ≡ Less) xs → list_any (eq_by_cmp R k) xs ≡ false
    none_tied [] above = refl
    none_tied (x ∷ xs) above = ap (λ o. is_eq o || list_any (eq_by_cmp R k) xs) above.0 ∙ none_tied xs above.1

pub passes : (b : Bool) → b ≡ true → T b
passes true e = tt
passes false e = absurd (cc)

passed : (b : Bool) → T b → b ≡ true
passed true h = refl
passed false h = absurd h

both_parts : (a b : Bool) → (a && b) ≡ true → (a ≡ true) × (b ≡ true)
both_parts true b h = (refl, h)
both_parts false b h = absurd (cc)

-- a map's list of entries is in order, and a list in order is that of its map
pub to_test : {K X : Type 0} (R : K → K → Ordering) (es : List (K × X)) → IsStrictlySortedBy R (keys_of es) → is_sorted R es ≡ true
unfolding IsStrictlySortedBy
to_test R [] h = refl
to_test {K = K} {X = X} R (e ∷ es) h = ap (λ b. b && is_sorted R es) (below es h.0) ∙ to_test R es h.1
  where
    below : (xs : List (K × X)) → AllByRecursion (λ y. R e.0 y ≡ Less) (keys_of xs) → below_all R e.0 xs ≡ true
    below [] k = refl
    below (x ∷ xs) k = ap (λ o. is_lt o && below_all R e.0 xs) k.0 ∙ below xs k.1

from_test : {K X : Type 0} (R : K → K → Ordering) (es : List (K × X)) → is_sorted R es ≡ true → IsStrictlySortedBy R (keys_of es)
unfolding IsStrictlySortedBy
from_test R [] h = tt
from_test {K = K} {X = X} R (e ∷ es) h =
    let parts = both_parts (below_all R e.0 es) (is_sorted R es) h in
    (below es parts.0, from_test R es parts.1)
  where
    less : (o : Ordering) → is_lt o ≡ true → o ≡ Less
    less Less k = refl
    less Equal k = absurd (true≢false (sym k))
    less Greater k = absurd (true≢false (sym k))

    below : (xs : List (K × X)) → below_all R e.0 xs ≡ true → AllByRecursion (λ y. R e.0 y ≡ Less) (keys_of xs)
    below [] k = tt
    below (x ∷ xs) k =
        let parts = both_parts (is_lt (R e.0 x.0)) (below_all R e.0 xs) k in
        (less (R e.0 x.0) parts.0, below xs parts.1)

pub entries_are : (es : List (Dot × Row)) → IsStrictlySortedBy dot_cmp (keys_of es) → es ≡ map.entries (rows_of es)
entries_are es h = same_entries dot_cmp dot_total dot_antisymmetric es (map.entries (rows_of es)) (passes _ (to_test dot_cmp es h)) (map.entries_sorted (rows_of es))
    (λ q. sym (map.get-from_entries dot_total es q) ∙ map.get-entries (rows_of es) q)

pub live_sorted : (m : LiveRows) → IsStrictlySortedBy dot_cmp (keys_of (map.entries m))
live_sorted m = from_test dot_cmp (map.entries m) (passed _ (map.entries_sorted m))

pub live_found : (m : LiveRows) → AllByRecursion (λ (e : Dot × Row). map.get m e.0 ≡ Some e.1) (map.entries m)
live_found m = each_weaker (λ (e : Dot × Row). lookup (same_dot e.0) (map.entries m) ≡ Some e.1) (λ (e : Dot × Row). map.get m e.0 ≡ Some e.1)
    (λ e found. map.get-entries m e.0 ∙ find_is (map.entries m) e.0 ∙ found) (map.entries m) (each_found dot_total (map.entries m) (live_sorted m))

found_runs : (q : Replica) (f : Form) → AllByRecursion (λ (e : Runs). AreRuns 0 e.1) f → (rs : List (ℕ × ℕ)) → lookup (same_replica q) f ≡ Some rs → AreRuns 0 rs
found_runs q [] h rs e = absurd (cc)
found_runs q (x ∷ xs) h rs e = pick (same_replica q x.0) (lookup (same_replica q) xs) e (found_runs q xs h.1 rs)
  where
    pick : (b : Bool) (o : Option (List (ℕ × ℕ))) → cond b (Some x.1) o ≡ Some rs → (o ≡ Some rs → AreRuns 0 rs) → AreRuns 0 rs
    pick true o k f =
        let same : x.1 ≡ rs = cc in
        subst (AreRuns 0) same h.0
    pick false o k f = f k

-- the dots above the tops are those of the set that lie in no range
extras_are : (o : Option (List (ℕ × ℕ))) (n : ℕ) → ((rs : List (ℕ × ℕ)) → o ≡ Some rs → AreRuns 0 rs)
    → found_by (λ rs. holds (above_top rs) n) o ≡ (found_by (λ rs. holds rs n) o && not (found_by (λ rs. up_to n (top_count rs)) o))
extras_are None n h = refl
extras_are (Some rs) n h = counts_parted rs n (h rs refl)

some_found : (p : List (ℕ × ℕ) → Bool) (o : Option (List (ℕ × ℕ))) → found_by p o ≡ true → is_some o ≡ true
some_found p None h = absurd (true≢false (sym h))
some_found p (Some rs) h = refl

first_held : (rs : List (ℕ × ℕ)) → AreRuns 0 rs → 0 < length rs → (n : ℕ) × (holds rs n ≡ true)
first_held [] h some = absurd (omega arith)
first_held (x ∷ xs) h some = (x.1, held_within x xs x.1 h.1 (omega arith))

-- the range of one entry
top_range : (s : DotSet) (r : Replica) (rs : List (ℕ × ℕ)) → ((n : ℕ) → set.contains s (dot_of r n) ≡ holds rs n) → AreRuns 0 rs → 0 < length rs → IsTopRange s (r, 0, top_count rs)
top_range s r rs at h some =
    let first = first_held rs h some in
    record {
      some = (first.0, at first.0 ∙ first.1);
      from = refl;
      below = λ n low le. at n ∙ top_held rs n (loose 0 rs h) low le;
      next = at (top_count rs + 1) ∙ next_not_held rs (loose 0 rs h);
    }

ranges_of_all : (s : DotSet) (g : Form) → AllByRecursion (λ (e : Runs). IsTopRange s (e.0, 0, top_count e.1)) g → AllByRecursion (IsTopRange s) (top_ranges g)
ranges_of_all s [] h = tt
ranges_of_all s (e ∷ es) h = (h.0, ranges_of_all s es h.1)

each_both : {A : Type 0} (P Q S : A → Type 0) → ((x : A) → P x → Q x → S x) → (xs : List A) → AllByRecursion P xs → AllByRecursion Q xs → AllByRecursion S xs
each_both P Q S f [] h k = tt
each_both P Q S f (x ∷ xs) h k = (f x h.0 k.0, each_both P Q S f xs h.1 k.1)

-- what a form lists, with the live rows, is all that is told
pub form_is_full : (s : DotRows) (f : Form) (t : ToldValue) → IsForm s.covered f → t.ranges ≡ top_ranges f → t.extras ≡ dots_above f → t.live ≡ map.entries s.live → IsFull s t
form_is_full s f t form e e' e'' =
    let longest = recursion_from_All (λ (x : Runs). AreRuns 0 x.1 × (0 < length x.1)) f form.runs in
    let runs = each_weaker (λ (x : Runs). AreRuns 0 x.1 × (0 < length x.1)) (λ (x : Runs). AreRuns 0 x.1) (λ x h. h.0) f longest in
    let replicas : replicas_of t.ranges ≡ keys_of f = ap replicas_of e ∙ replicas_listed f in
    record {
      ranges = subst (All (IsTopRange s.covered)) (sym e) (All-from_recursion (IsTopRange s.covered) (top_ranges f) (ranges_of_all s.covered f
          (each_both (λ (x : Runs). lookup (same_replica x.0) f ≡ Some x.1) (λ (x : Runs). AreRuns 0 x.1 × (0 < length x.1)) (λ (x : Runs). IsTopRange s.covered (x.0, 0, top_count x.1))
          (λ x found h. top_range s.covered x.0 x.1 (λ n. in_set (dot_of x.0 n) s.covered f form.dots ∙ ap (found_by (λ rs. holds rs n)) found) h.0 h.1)
          f (each_found replica_total f form.replicas) longest)));
      replicas = λ d has.
          ap (list_any (same_replica d.replica)) replicas ∙ sym (is_some-lookup (same_replica d.replica) f)
          ∙ some_found (λ rs. holds rs d.count) (lookup (same_replica d.replica) f) (sym (in_set d s.covered f form.dots) ∙ has);
      ranges_in_order = subst (IsStrictlySortedBy replica_cmp) (sym replicas) form.replicas;
      extras = λ d.
          ap (list_any (same_dot d)) e' ∙ in_above d f form.replicas
          ∙ extras_are (lookup (same_replica d.replica) f) d.count (found_runs d.replica f runs)
          ∙ ap (λ b. b && not (found_by (λ rs. up_to d.count (top_count rs)) (lookup (same_replica d.replica) f))) (sym (in_set d s.covered f form.dots))
          ∙ ap (λ b. set.contains s.covered d && not b) (sym (in_ranges d f form.replicas) ∙ ap (list_any (range_has d)) (sym e));
      extras_in_order = subst (IsStrictlySortedBy dot_cmp) (sym e') (above_sorted f form.replicas runs);
      live = e'';
    }

-- a dot in a range up to the top is covered
in_top_range : (s : DotSet) (d : Dot) (g : Range) → IsTopRange s g → range_has d g ≡ true → set.contains s d ≡ true
in_top_range s d g h has =
    let parts = both_parts (same_replica d.replica g.0) (nat_lt g.1 d.count && nat_le d.count g.2) has in
    let ends = both_parts (nat_lt g.1 d.count) (nat_le d.count g.2) parts.1 in
    ap (λ r. set.contains s (dot_of r d.count)) (replicas_equal d.replica g.0 parts.0) ∙ h.below d.count (above g.1 d.count ends.0) (at_most d.count g.2 ends.1)
  where
    above : (m n : ℕ) → nat_lt m n ≡ true → 1 ≤ n
    above m n k = grind (arith, nat_tests)

    at_most : (m n : ℕ) → nat_le m n ≡ true → m ≤ n
    at_most m n k = grind (arith, nat_tests)

in_top_ranges : (s : DotSet) (d : Dot) (gs : List Range) → AllByRecursion (IsTopRange s) gs → list_any (range_has d) gs ≡ true → set.contains s d ≡ true
in_top_ranges s d [] h has = absurd (cc)
in_top_ranges s d (g ∷ gs) h has = pick (range_has d g) (list_any (range_has d) gs) has (in_top_range s d g h.0) (in_top_ranges s d gs h.1)
  where
    pick : {P : Type 0} (a b : Bool) → (a || b) ≡ true → (a ≡ true → P) → (b ≡ true → P) → P
    pick true b k f f' = f refl
    pick false b k f f' = f' k

-- the full told value covers what the set covers
pub covers_all : (s : DotRows) (t : ToldValue) → IsFull s t → (d : Dot) → covers t d ≡ set.contains s.covered d
covers_all s t h d =
    ap (λ b. list_any (range_has d) t.ranges || b) (h.extras d)
    ∙ either (list_any (range_has d) t.ranges) (set.contains s.covered d) (in_top_ranges s.covered d t.ranges (recursion_from_All (IsTopRange s.covered) t.ranges h.ranges))
  where
    either : (r c : Bool) → (r ≡ true → c ≡ true) → (r || (c && not r)) ≡ c
    either true c f = sym (f refl)
    either false true f = refl
    either false false f = refl

-- its live rows are the set's
pub rows_listed : (s : DotRows) (t : ToldValue) → t.live ≡ map.entries s.live → (d : Dot) → live_row t d ≡ map.get s.live d
rows_listed s t live d = ap (lookup (same_dot d)) live ∙ sym (find_is (map.entries s.live) d) ∙ sym (map.get-entries s.live d)

pub rows_all : (s : DotRows) (t : ToldValue) → IsFull s t → (d : Dot) → live_row t d ≡ map.get s.live d
rows_all s t h d = rows_listed s t h.live d

pub covered_dot : (s : DotRows) → IsSound s.covered s.live → (d : Dot) → set.contains s.covered d ≡ true → is_dot d ≡ true
covered_dot s sound d has = by_parts (set.contains s.covered d) (map.get s.live d) has (sound d)
  where
    by_parts : (c : Bool) (o : Option Row) → c ≡ true → is_sound d c o ≡ true → is_dot d ≡ true
    by_parts true None e h = h
    by_parts true (Some r) e h = (both_parts (is_dot d) (is_row r) h).0
    by_parts false o e h = absurd (cc)

pub live_dot : (s : DotRows) → IsSound s.covered s.live → (d : Dot) (r : Row) → map.get s.live d ≡ Some r → (set.contains s.covered d ≡ true) × ((is_dot d && is_row r) ≡ true)
live_dot s sound d r has = by_parts (set.contains s.covered d) (map.get s.live d) has (sound d)
  where
    by_parts : (c : Bool) (o : Option Row) → o ≡ Some r → is_sound d c o ≡ true → (c ≡ true) × ((is_dot d && is_row r) ≡ true)
    by_parts true None e h = absurd (cc)
    by_parts true (Some x) e h =
        let same : x ≡ r = cc in
        (refl, ap (λ y. is_dot d && is_row y) (sym same) ∙ h)
    by_parts false None e h = absurd (cc)
    by_parts false (Some x) e h = absurd (cc)

top_limits : (s : DotRows) → IsSound s.covered s.live → (g : Range) → IsTopRange s.covered g → is_range g ≡ true
top_limits s sound g h = join (is_count g.0.incarnation) (nat_le g.1 MAX_COUNT) (nat_le g.2 MAX_COUNT)
    (both_parts (is_count g.0.incarnation) (is_count h.some.0) (covered_dot s sound (dot_of g.0 h.some.0) h.some.1)).0
    (ap (λ n. nat_le n MAX_COUNT) h.from)
    (top_small MAX_COUNT g.2 (λ some. (both_parts (nat_le 1 g.2) (nat_le g.2 MAX_COUNT) (both_parts (is_count g.0.incarnation) (is_count g.2) (covered_dot s sound (dot_of g.0 g.2) (h.below g.2 some (omega arith)))).1).1))
  where
    join : (a b c : Bool) → a ≡ true → b ≡ true → c ≡ true → (a && (b && c)) ≡ true
    join true true true e e' e'' = refl
    join true true false e e' e'' = absurd (cc)
    join true false c e e' e'' = absurd (cc)
    join false b c e e' e'' = absurd (cc)

    top_small : (limit top : ℕ) → (1 ≤ top → nat_le top limit ≡ true) → nat_le top limit ≡ true
    top_small limit zero f = grind (arith, nat_tests)
    top_small limit (suc n) f = f (omega arith)

pub all_of : {A : Type 0} (P : A → Type 0) (p : A → Bool) → ((x : A) → P x → p x ≡ true) → (xs : List A) → AllByRecursion P xs → list_all p xs ≡ true
all_of P p f [] h = refl
all_of P p f (x ∷ xs) h = ap (λ b. b && list_all p xs) (f x h.0) ∙ all_of P p f xs h.1

all_members : (p : Dot → Bool) (xs : List Dot) → ((d : Dot) → list_any (same_dot d) xs ≡ true → p d ≡ true) → list_all p xs ≡ true
all_members p [] f = refl
all_members p (x ∷ xs) f =
    ap (λ b. b && list_all p xs) (f x (ap (λ b. b || list_any (same_dot x) xs) (same_itself x)))
    ∙ all_members p xs (λ d has. f d (later (same_dot d x) (list_any (same_dot d) xs) has))
  where
    later : (a b : Bool) → b ≡ true → (a || b) ≡ true
    later true b e = refl
    later false b e = e

-- what is told of a sound set keeps what every told value keeps
pub full_is_told : (s : DotRows) (t : ToldValue) → IsSound s.covered s.live → IsFull s t → IsTold t
full_is_told s t sound h =
    let tops = recursion_from_All (IsTopRange s.covered) t.ranges h.ranges in
    let live = subst (AllByRecursion (λ (x : Dot × Row). map.get s.live x.0 ≡ Some x.1)) (sym h.live) (live_found s.live) in
    record {
      forward = all_of (IsTopRange s.covered) is_forward (λ g top. ap (λ n. nat_le n g.2) top.from ∙ zero_first g.2) t.ranges tops;
      ranges = all_of (IsTopRange s.covered) is_range (top_limits s sound) t.ranges tops;
      extras = all_members is_dot t.extras (λ d has. covered_dot s sound d (both_parts (set.contains s.covered d) (not (list_any (range_has d) t.ranges)) (sym (h.extras d) ∙ has)).0);
      rows = all_of (λ (x : Dot × Row). map.get s.live x.0 ≡ Some x.1) (λ (x : Dot × Row). is_dot x.0 && is_row x.1) (λ x found. (live_dot s sound x.0 x.1 found).1) t.live live;
      covered = all_of (λ (x : Dot × Row). map.get s.live x.0 ≡ Some x.1) (λ (x : Dot × Row). covers t x.0) (λ x found. covers_all s t h x.0 ∙ (live_dot s sound x.0 x.1 found).0) t.live live;
      once = ap (λ (l : List (Dot × Row)). has_repeat same_dot (dots_of l)) h.live ∙ no_repeat dot_cmp (dots_of (map.entries s.live)) (live_sorted s.live);
    }
  where
    zero_first : (n : ℕ) → nat_le 0 n ≡ true
    zero_first n = grind (arith, nat_tests)

-- told from the tops and the cloud of the covered set, and from its live rows
pub told_full : (s : DotRows) (t : ToldValue) (tops : List (Replica × ℕ)) (cloud : Form) → IfFormed s.covered (λ f. tops ≡ tops_of f) → IfFormed s.covered (λ f. cloud ≡ cloud_of f)
    → t.ranges ≡ each_of up_to_top tops → t.extras ≡ dots_of_runs cloud → t.live ≡ map.entries s.live → IsFull s t
told_full s t tops cloud h k e e' e'' =
    form_is_full s h.0 t h.1 (e ∙ ap (each_of up_to_top) h.2) (e' ∙ ap dots_of_runs (k.2 ∙ ap cloud_of (only_form s.covered k.0 h.0 k.1 h.1))) e''
