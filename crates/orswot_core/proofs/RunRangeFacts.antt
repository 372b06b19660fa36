-- The full told value in ranges alone: what a form lists as ranges is all that is told of the set.
use Rattle.std.proofs.Common.{◌≡◌, ℕ, ◌<◌, suc, Bool, true, false, not, ◌&&◌, ◌||◌, nat_lt, nat_le, List, [], ◌∷◌, ◌++◌, length, arith, refl, sym, ◌∙◌, ap, subst, Some, Ordering}
use Rattle.std.proofs.lemmas.Bool.Decides.{nat_tests}
use Rattle.std.proofs.lemmas.List.Elements.{recursion_from_All}
use Rattle.std.specs.List.{AllByRecursion, list_any, list_all}
use Rattle.std.specs.List.Sorted.{IsStrictlySortedBy}
use Rattle.std.specs.Ordering.{is_lt}
use Rattle.std.specs.declared.cmp.Ordering.TheVariants.{Less, Equal, Greater}
use Rattle.std.specs.Cmp.{eq_by_cmp_equiv}
use Rattle.std.specs.FinSet as set
use Rattle.std.specs.FinMap as map
use Rattle.std.specs.Map.{keys_of}
use Rattle.presence_base.specs.declared.dots.Replica.{Replica}
use Rattle.presence_base.specs.declared.dots.TheConstants.{MAX_COUNT}
use Rattle.presence_base.specs.declared.dots.Dot.{Dot}
use Rattle.presence_base.specs.declared.row.Row.{Row}
use Rattle.presence_base.specs.Order.{replica_cmp, dot_cmp, same_replica, same_dot}
use Rattle.dot_context.specs.Runs.{holds, AreRuns}
use Rattle.dot_context.specs.Sets.{DotSet}
use Rattle.dot_context.specs.Forms.{Form, IsForm, IfFormed}
use Rattle.orswot_core.specs.declared.form.Form.TheVariants.{Two}
use Rattle.orswot_core.specs.Limits.{is_count, is_dot, is_row, is_range}
use Rattle.orswot_core.specs.Telling.{Range, ToldValue, range_has, run_ranges, covers}
use Rattle.orswot_core.specs.Checks.{IsTold, has_repeat, dots_of, is_forward, may_precede, follow_on, are_in_order, has_range_astray}
use Rattle.orswot_core.specs.Sets.{DotRows, IsSound}
use Rattle.orswot_core.specs.Full.{dot_of, all_ranges, is_some, is_apart, are_apart_from, are_apart, IsFullInRuns}
use Rattle.orswot_core.proofs.LoopFacts.{all_weaker, or_none}
use Rattle.orswot_core.proofs.OrderFacts.{replica_total}
use Rattle.orswot_core.proofs.RunFacts.{in_run_ranges, any_either_list, and_parts, and_from, or_true}
use Rattle.orswot_core.proofs.ListedFacts.{any_found, in_set}
use Rattle.orswot_core.proofs.OrderedFacts.{each_weaker}
use Rattle.orswot_core.proofs.FullFacts.{all_of, covered_dot, live_dot, live_found, live_sorted, no_repeat}

-- the dots of the ranges are those of the set
any_entries : (d : Dot) (f : Form) → list_any (range_has d) (all_ranges f) ≡ list_any (λ x. same_replica d.replica x.0 && holds x.1 d.count) f
any_entries d [] = refl
any_entries d (e ∷ es) =
    any_either_list (range_has d) (run_ranges e.0 e.1) (all_ranges es)
    ∙ ap (λ b. b || list_any (range_has d) (all_ranges es)) (in_run_ranges d e.0 e.1)
    ∙ ap (λ b. (same_replica d.replica e.0 && holds e.1 d.count) || b) (any_entries d es)

in_all_ranges : (d : Dot) (s : DotSet) (f : Form) → IsForm s f → list_any (range_has d) (all_ranges f) ≡ set.contains s d
in_all_ranges d s f form = any_entries d f ∙ any_found (λ rs. holds rs d.count) d.replica f form.replicas ∙ sym (in_set d s f form.dots)

lt_test : (m n : ℕ) → m < n → nat_lt m n ≡ true
lt_test m n lt = grind (arith, nat_tests)

-- none is empty
all_append : {A : Type 0} (p : A → Bool) (xs ys : List A) → list_all p xs ≡ true → list_all p ys ≡ true → list_all p (xs ++ ys) ≡ true
all_append p [] ys h k = k
all_append p (x ∷ xs) ys h k =
    let parts = and_parts (p x) (list_all p xs) h in
    and_from (p x) (list_all p (xs ++ ys)) parts.0 (all_append p xs ys parts.1 k)

some_runs : (r : Replica) (low : ℕ) (rs : List (ℕ × ℕ)) → AreRuns low rs → list_all is_some (run_ranges r rs) ≡ true
some_runs r low [] h = refl
some_runs r low (x ∷ xs) h = and_from (is_some (r, x.0, x.1)) (list_all is_some (run_ranges r xs)) (lt_test x.0 x.1 h.1) (some_runs r (suc x.1) xs h.2)

some_ranges : (f : Form) → AllByRecursion (λ e. AreRuns 0 e.1) f → list_all is_some (all_ranges f) ≡ true
some_ranges [] h = refl
some_ranges (e ∷ es) h = all_append is_some (run_ranges e.0 e.1) (all_ranges es) (some_runs e.0 0 e.1 h.0) (some_ranges es h.1)

-- and none meets another
pub same_self : (r : Replica) → same_replica r r ≡ true
same_self r = (eq_by_cmp_equiv replica_total).refl r

apart_here : (r : Replica) (a b c d : ℕ) → b < c → is_apart (r, a, b) (r, c, d) ≡ true
apart_here r a b c d lt =
    ap (λ e. is_lt (replica_cmp r r) || (e && nat_lt b c)) (same_self r)
    ∙ ap (λ e. is_lt (replica_cmp r r) || e) (lt_test b c lt)
    ∙ or_true (is_lt (replica_cmp r r))

apart_later : (g h : Range) → replica_cmp g.0 h.0 ≡ Less → is_apart g h ≡ true
apart_later g h less = ap (λ o. is_lt o || (same_replica g.0 h.0 && nat_lt g.2 h.1)) less

apart_runs : (g : Range) (rs : List (ℕ × ℕ)) (rest : List Range) → AreRuns (suc g.2) rs → ((h : Range) → h.0 ≡ g.0 → are_apart_from h rest ≡ true)
    → are_apart_from g (run_ranges g.0 rs ++ rest) ≡ true
apart_runs g [] rest h after = after g refl
apart_runs g (x ∷ xs) rest h after = and_from (is_apart g (g.0, x.0, x.1)) (are_apart_from (g.0, x.0, x.1) (run_ranges g.0 xs ++ rest))
    (apart_here g.0 g.1 g.2 x.0 x.1 (omega (arith, h.0)))
    (apart_runs (g.0, x.0, x.1) xs rest h.2 after)

apart_entries : (g : Range) (f : Form) → AllByRecursion (λ q. replica_cmp g.0 q ≡ Less) (keys_of f) → IsStrictlySortedBy replica_cmp (keys_of f) → AllByRecursion (λ e. AreRuns 0 e.1) f
    → are_apart_from g (all_ranges f) ≡ true
unfolding IsStrictlySortedBy
apart_entries g [] later sorted runs = refl
apart_entries g (e ∷ es) later sorted runs = go e.1 runs.0 (λ k below. apart_entries k es below sorted.1 runs.1)
  where
    go : (rs : List (ℕ × ℕ)) → AreRuns 0 rs → ((k : Range) → AllByRecursion (λ q. replica_cmp k.0 q ≡ Less) (keys_of es) → are_apart_from k (all_ranges es) ≡ true)
        → are_apart_from g (run_ranges e.0 rs ++ all_ranges es) ≡ true
    go [] h next = next g later.1
    go (x ∷ xs) h next = and_from (is_apart g (e.0, x.0, x.1)) (are_apart_from (e.0, x.0, x.1) (run_ranges e.0 xs ++ all_ranges es)) (apart_later g (e.0, x.0, x.1) later.0)
        (apart_runs (e.0, x.0, x.1) xs (all_ranges es) h.2
        (λ k same. next k (subst (λ r. AllByRecursion (λ q. replica_cmp r q ≡ Less) (keys_of es)) (sym same) sorted.0)))

apart_ranges : (f : Form) → IsStrictlySortedBy replica_cmp (keys_of f) → AllByRecursion (λ e. AreRuns 0 e.1) f → are_apart (all_ranges f) ≡ true
unfolding IsStrictlySortedBy
apart_ranges [] sorted runs = refl
apart_ranges (e ∷ es) sorted runs = go e.1 runs.0 (apart_ranges es sorted.1 runs.1)
  where
    go : (rs : List (ℕ × ℕ)) → AreRuns 0 rs → are_apart (all_ranges es) ≡ true → are_apart (run_ranges e.0 rs ++ all_ranges es) ≡ true
    go [] h rest = rest
    go (x ∷ xs) h rest = apart_runs (e.0, x.0, x.1) xs (all_ranges es) h.2
        (λ k same. apart_entries k es (subst (λ r. AllByRecursion (λ q. replica_cmp r q ≡ Less) (keys_of es)) (sym same) sorted.0) sorted.1 runs.1)

-- ranges that lie apart and none of which is empty are in order
may_follow : (o : Ordering) (same : Bool) (a b c : ℕ) → (is_lt o || (same && nat_lt b c)) ≡ true → nat_lt a b ≡ true → (is_lt o || (same && (nat_le a c && nat_le b c))) ≡ true
may_follow Less same a b c h some = refl
may_follow Equal true a b c h some = and_from (nat_le a c) (nat_le b c) (grind (arith, nat_tests)) (grind (arith, nat_tests))
may_follow Equal false a b c h some = absurd (cc)
may_follow Greater true a b c h some = and_from (nat_le a c) (nat_le b c) (grind (arith, nat_tests)) (grind (arith, nat_tests))
may_follow Greater false a b c h some = absurd (cc)

apart_follow : (g : Range) (gs : List Range) → list_all is_some (g ∷ gs) ≡ true → are_apart_from g gs ≡ true → follow_on g gs ≡ true
apart_follow g [] some h = refl
apart_follow g (k ∷ ks) some h =
    let parts = and_parts (is_apart g k) (are_apart_from k ks) h in
    let somes = and_parts (is_some g) (list_all is_some (k ∷ ks)) some in
    and_from (may_precede g k) (follow_on k ks) (may_follow (replica_cmp g.0 k.0) (same_replica g.0 k.0) g.1 g.2 k.1 parts.0 somes.0) (apart_follow k ks somes.1 parts.1)

apart_in_order : (gs : List Range) → list_all is_some gs ≡ true → are_apart gs ≡ true → are_in_order gs ≡ true
apart_in_order [] some h = refl
apart_in_order (g ∷ gs) some h = apart_follow g gs some h

pub runs_not_astray : (s : DotRows) (t : ToldValue) → IsFullInRuns s t → has_range_astray Two t.ranges ≡ false
runs_not_astray s t h = ap not (apart_in_order t.ranges h.some h.apart)

-- what a form lists as ranges, with the live rows, is all that is told
pub form_is_full_in_runs : (s : DotRows) (f : Form) (t : ToldValue) → IsForm s.covered f → t.ranges ≡ all_ranges f → t.extras ≡ [] → t.live ≡ map.entries s.live → IsFullInRuns s t
form_is_full_in_runs s f t form e none live =
    let longest = recursion_from_All (λ (x : Replica × List (ℕ × ℕ)). AreRuns 0 x.1 × (0 < length x.1)) f form.runs in
    let runs = each_weaker (λ (x : Replica × List (ℕ × ℕ)). AreRuns 0 x.1 × (0 < length x.1)) (λ (x : Replica × List (ℕ × ℕ)). AreRuns 0 x.1) (λ x h. h.0) f longest in
    record {
      ranges = λ d. ap (list_any (range_has d)) e ∙ in_all_ranges d s.covered f form;
      some = ap (list_all is_some) e ∙ some_ranges f runs;
      apart = ap are_apart e ∙ apart_ranges f form.replicas runs;
      extras = none;
      live = live;
    }

-- it covers what the set covers, and its live rows are the set's
pub covers_in_runs : (s : DotRows) (t : ToldValue) → IsFullInRuns s t → (d : Dot) → covers t d ≡ set.contains s.covered d
covers_in_runs s t h d = ap (λ es. list_any (range_has d) t.ranges || list_any (same_dot d) es) h.extras ∙ or_none (list_any (range_has d) t.ranges) ∙ h.ranges d

-- what is told of a sound set keeps what every told value keeps
pub last_within : (g : Range) → is_some g ≡ true → range_has (dot_of g.0 g.2) g ≡ true
last_within g some = and_from (same_replica g.0 g.0) (nat_lt g.1 g.2 && nat_le g.2 g.2) (same_self g.0) (and_from (nat_lt g.1 g.2) (nat_le g.2 g.2) some (le_self g.2))
  where
    le_self : (n : ℕ) → nat_le n n ≡ true
    le_self n = grind (arith, nat_tests)

limited : (g : Range) → is_some g ≡ true → is_dot (dot_of g.0 g.2) ≡ true → is_range g ≡ true
limited g some last =
    let parts = and_parts (is_count g.0.incarnation) (is_count g.2) last in
    let end = (and_parts (nat_le 1 g.2) (nat_le g.2 MAX_COUNT) parts.1).1 in
    and_from (is_count g.0.incarnation) (nat_le g.1 MAX_COUNT && nat_le g.2 MAX_COUNT) parts.0 (and_from (nat_le g.1 MAX_COUNT) (nat_le g.2 MAX_COUNT) (below g.1 g.2 MAX_COUNT some end) end)
  where
    below : (m n limit : ℕ) → nat_lt m n ≡ true → nat_le n limit ≡ true → nat_le m limit ≡ true
    below m n limit h k = grind (arith, nat_tests)

ranges_limited : (gs : List Range) → list_all is_some gs ≡ true → ((d : Dot) → list_any (range_has d) gs ≡ true → is_dot d ≡ true) → list_all is_range gs ≡ true
ranges_limited [] some has = refl
ranges_limited (g ∷ gs) some has =
    let parts = and_parts (is_some g) (list_all is_some gs) some in
    and_from (is_range g) (list_all is_range gs)
    (limited g parts.0 (has (dot_of g.0 g.2) (ap (λ b. b || list_any (range_has (dot_of g.0 g.2)) gs) (last_within g parts.0))))
    (ranges_limited gs parts.1 (λ d h. has d (ap (λ b. range_has d g || b) h ∙ or_true (range_has d g))))

pub full_in_runs_told : (s : DotRows) (t : ToldValue) → IsSound s.covered s.live → IsFullInRuns s t → IsTold t
full_in_runs_told s t sound h =
    let live = subst (AllByRecursion (λ (x : Dot × Row). map.get s.live x.0 ≡ Some x.1)) (sym h.live) (live_found s.live) in
    record {
      forward = all_weaker is_some is_forward (λ g some. forward g.1 g.2 some) t.ranges h.some;
      ranges = ranges_limited t.ranges h.some (λ d has. covered_dot s sound d (sym (h.ranges d) ∙ has));
      extras = ap (list_all is_dot) h.extras;
      rows = all_of (λ (x : Dot × Row). map.get s.live x.0 ≡ Some x.1) (λ (x : Dot × Row). is_dot x.0 && is_row x.1) (λ x found. (live_dot s sound x.0 x.1 found).1) t.live live;
      covered = all_of (λ (x : Dot × Row). map.get s.live x.0 ≡ Some x.1) (λ (x : Dot × Row). covers t x.0) (λ x found. covers_in_runs s t h x.0 ∙ (live_dot s sound x.0 x.1 found).0) t.live live;
      once = ap (λ (l : List (Dot × Row)). has_repeat same_dot (dots_of l)) h.live ∙ no_repeat dot_cmp (dots_of (map.entries s.live)) (live_sorted s.live);
    }
  where
    forward : (m n : ℕ) → nat_lt m n ≡ true → nat_le m n ≡ true
    forward m n lt = grind (arith, nat_tests)

-- told from the runs of the covered set, and from its live rows
pub told_full_in_runs : (s : DotRows) (t : ToldValue) (all : Form) → IfFormed s.covered (λ f. all ≡ f) → t.ranges ≡ all_ranges all → t.extras ≡ [] → t.live ≡ map.entries s.live → IsFullInRuns s t
told_full_in_runs s t all h e none live = form_is_full_in_runs s h.0 t h.1 (e ∙ ap all_ranges h.2) none live
