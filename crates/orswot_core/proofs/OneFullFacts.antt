-- A set has one full told value.
use Rattle.std.proofs.Common.{◌≡◌, ℕ, ◌+◌, ◌≤◌, Bool, true, false, cond, not, ◌&&◌, ◌||◌, List, [], ◌∷◌, arith, refl, sym, ◌∙◌, ap, subst, Option, Some, None, is_some, true≢false, Ordering, inl, inr}
use Rattle.std.proofs.lemmas.Bool.{cases_lt}
use Rattle.std.proofs.lemmas.List.Elements.{recursion_from_All}
use Rattle.std.specs.List.{AllByRecursion, list_any}
use Rattle.std.specs.List.Sorted.{IsStrictlySortedBy}
use Rattle.std.specs.Ordering.{eq_by_cmp}
use Rattle.std.specs.Cmp.{IsTotalOrder}
use Rattle.std.specs.FinSet as set
use Rattle.std.specs.FinMap as map
use Rattle.std.specs.FinMap.Entries.{find, same_entries, is_some-find}
use Rattle.std.specs.Map.{keys_of}
use Rattle.presence_base.specs.declared.dots.Replica.{Replica}
use Rattle.presence_base.specs.declared.dots.Dot.{Dot}
use Rattle.presence_base.specs.Order.{replica_cmp, same_replica}
use Rattle.dot_context.specs.Sets.{DotSet}
use Rattle.orswot_core.specs.declared.form.Form.{Form as ToldForm}
use Rattle.orswot_core.specs.declared.form.Form.TheVariants.{One, Two}
use Rattle.orswot_core.specs.Telling.{Range, ToldValue, range_has, covers, live_row}
use Rattle.orswot_core.specs.Checks.{replicas_of}
use Rattle.orswot_core.specs.Sets.{DotRows}
use Rattle.orswot_core.specs.Full.{dot_of, IsTopRange, IsFull, IsFullInRuns, IsFullIn}
use Rattle.orswot_core.specs.Laws.{OneFull, FormsTellTheSame, FullsAreInOrder}
use Rattle.orswot_core.proofs.OrderFacts.{replica_total, replica_antisymmetric, dot_total, dot_antisymmetric, replicas_equal}
use Rattle.orswot_core.proofs.FullFacts.{passes, to_test, no_repeat, covers_all, rows_all, rows_listed}
use Rattle.orswot_core.proofs.RunRangeFacts.{covers_in_runs, runs_not_astray}
use Rattle.orswot_core.proofs.ApartFacts.{same_ranges_apart}

abbrev marked : {K : Type 0} → List K → List (K × Unit {0})
marked [] = []
marked (x ∷ xs) = (x, tt) ∷ marked xs

keys_marked : {K : Type 0} (xs : List K) → keys_of (marked xs) ≡ xs
keys_marked [] = refl
keys_marked (x ∷ xs) = ap (λ l. x ∷ l) (keys_marked xs)

abbrev mark : Bool → Option (Unit {0})
mark b = cond b (Some tt) None

found_marked : {K : Type 0} (R : K → K → Ordering) (q : K) (xs : List K) → find R q (marked xs) ≡ mark (list_any (eq_by_cmp R q) xs)
found_marked R q [] = refl
found_marked R q (x ∷ xs) = ap (cond (eq_by_cmp R q x) (Some tt)) (found_marked R q xs) ∙ either (eq_by_cmp R q x) (list_any (eq_by_cmp R q) xs)
  where
    either : (a b : Bool) → cond a (mark true) (mark b) ≡ mark (a || b)
    either true b = refl
    either false b = refl

-- two lists in order that have the same members are equal
same_members : {K : Type 0} {R : K → K → Ordering} → IsTotalOrder R → set.IsAntisymmetric R → (xs ys : List K) → IsStrictlySortedBy R xs → IsStrictlySortedBy R ys
    → ((q : K) → list_any (eq_by_cmp R q) xs ≡ list_any (eq_by_cmp R q) ys) → xs ≡ ys
same_members {K = K} {R = R} o same xs ys h k e =
    let test : (zs : List K) → IsStrictlySortedBy R zs → IsStrictlySortedBy R (keys_of (marked zs)) = λ zs s. subst (IsStrictlySortedBy R) (sym (keys_marked zs)) s in
    let entries : marked xs ≡ marked ys = same_entries R o same (marked xs) (marked ys) (passes _ (to_test R (marked xs) (test xs h))) (passes _ (to_test R (marked ys) (test ys k)))
    (λ q. found_marked R q xs ∙ ap mark (e q) ∙ sym (found_marked R q ys)) in
    sym (keys_marked xs) ∙ ap keys_of entries ∙ keys_marked ys

-- a replica has one range up to its top
one_top : (s : DotSet) (q : Replica) (x y : ℕ × ℕ) → IsTopRange s (q, x.0, x.1) → IsTopRange s (q, y.0, y.1) → x ≡ y
one_top s q x y h k =
    let from : x.0 ≡ y.0 = h.from ∙ sym k.from in
    let to : x.1 ≡ y.1 = omega (arith, not_less x y h k, not_less y x k h) in
    λ i. (from i, to i)
  where
    not_less : (a b : ℕ × ℕ) → IsTopRange s (q, a.0, a.1) → IsTopRange s (q, b.0, b.1) → b.1 ≤ a.1
    not_less a b f g = elim (cases_lt a.1 b.1) [
      | inl lt ↦ absurd (true≢false (sym (g.below (a.1 + 1) (omega arith) (omega arith)) ∙ f.next))
      | inr le ↦ le
    ]

abbrev ends_of : List Range → List (Replica × (ℕ × ℕ))
ends_of [] = []
ends_of (g ∷ gs) = (g.0, (g.1, g.2)) ∷ ends_of gs

abbrev ranges_at : List (Replica × (ℕ × ℕ)) → List Range
ranges_at [] = []
ranges_at (e ∷ es) = (e.0, e.1.0, e.1.1) ∷ ranges_at es

back_at : (gs : List Range) → ranges_at (ends_of gs) ≡ gs
back_at [] = refl
back_at (g ∷ gs) = ap (λ l. g ∷ l) (back_at gs)

keys_at : (gs : List Range) → keys_of (ends_of gs) ≡ replicas_of gs
keys_at [] = refl
keys_at (g ∷ gs) = ap (λ l. g.0 ∷ l) (keys_at gs)

-- what a look-up of a replica finds is its range up to the top
found_top : (s : DotSet) (q : Replica) (gs : List Range) → AllByRecursion (IsTopRange s) gs → (x : ℕ × ℕ) → find replica_cmp q (ends_of gs) ≡ Some x → IsTopRange s (q, x.0, x.1)
found_top s q [] h x e = absurd (cc)
found_top s q (g ∷ gs) h x e = pick (same_replica q g.0) (find replica_cmp q (ends_of gs)) (λ same. replicas_equal q g.0 same) e (found_top s q gs h.1 x)
  where
    pick : (b : Bool) (o : Option (ℕ × ℕ)) → (b ≡ true → q ≡ g.0) → cond b (Some (g.1, g.2)) o ≡ Some x → (o ≡ Some x → IsTopRange s (q, x.0, x.1)) → IsTopRange s (q, x.0, x.1)
    pick true o same k f =
        let ends : (g.1, g.2) ≡ x = cc in
        subst (λ (y : ℕ × ℕ). IsTopRange s (q, y.0, y.1)) ends (subst (λ r. IsTopRange s (r, g.1, g.2)) (sym (same refl)) h.0)
    pick false o same k f = f k

-- of a replica with a range up to the top there is a range in each full told value
has_top : (s : DotRows) (t : ToldValue) (q : Replica) (x : ℕ × ℕ) → IsFull s t → IsTopRange s.covered (q, x.0, x.1) → is_some (find replica_cmp q (ends_of t.ranges)) ≡ true
has_top s t q x h top = is_some-find replica_cmp q (ends_of t.ranges) ∙ ap (list_any (same_replica q)) (keys_at t.ranges) ∙ h.replicas (dot_of q top.some.0) top.some.1

same_found : (s : DotRows) (t u : ToldValue) → IsFull s t → IsFull s u → (q : Replica) → find replica_cmp q (ends_of t.ranges) ≡ find replica_cmp q (ends_of u.ranges)
same_found s t u h k q = by_found (find replica_cmp q (ends_of t.ranges)) (find replica_cmp q (ends_of u.ranges))
    (found_top s.covered q t.ranges (recursion_from_All (IsTopRange s.covered) t.ranges h.ranges))
    (found_top s.covered q u.ranges (recursion_from_All (IsTopRange s.covered) u.ranges k.ranges))
    (λ x top. has_top s t q x h top) (λ x top. has_top s u q x k top)
  where
    by_found : (o p : Option (ℕ × ℕ)) → ((x : ℕ × ℕ) → o ≡ Some x → IsTopRange s.covered (q, x.0, x.1)) → ((x : ℕ × ℕ) → p ≡ Some x → IsTopRange s.covered (q, x.0, x.1))
        → ((x : ℕ × ℕ) → IsTopRange s.covered (q, x.0, x.1) → is_some o ≡ true) → ((x : ℕ × ℕ) → IsTopRange s.covered (q, x.0, x.1) → is_some p ≡ true) → o ≡ p
    by_found None None f g f' g' = refl
    by_found None (Some y) f g f' g' = absurd (true≢false (sym (f' y (g y refl))))
    by_found (Some x) None f g f' g' = absurd (true≢false (sym (g' x (f x refl))))
    by_found (Some x) (Some y) f g f' g' = ap (λ z. Some z) (one_top s.covered q x y (f x refl) (g y refl))

same_ranges : (s : DotRows) (t u : ToldValue) → IsFull s t → IsFull s u → t.ranges ≡ u.ranges
same_ranges s t u h k =
    let test : (v : ToldValue) → IsFull s v → IsStrictlySortedBy replica_cmp (keys_of (ends_of v.ranges)) = λ v f. subst (IsStrictlySortedBy replica_cmp) (sym (keys_at v.ranges)) f.ranges_in_order in
    let ends : ends_of t.ranges ≡ ends_of u.ranges = same_entries replica_cmp replica_total replica_antisymmetric (ends_of t.ranges) (ends_of u.ranges)
    (passes _ (to_test replica_cmp (ends_of t.ranges) (test t h))) (passes _ (to_test replica_cmp (ends_of u.ranges) (test u k))) (same_found s t u h k) in
    sym (back_at t.ranges) ∙ ap ranges_at ends ∙ back_at u.ranges

one_full_in_tops : (s : DotRows) (t u : ToldValue) → IsFull s t → IsFull s u → t ≡ u
one_full_in_tops s t u h k =
    let ranges : t.ranges ≡ u.ranges = same_ranges s t u h k in
    let extras : t.extras ≡ u.extras = same_members dot_total dot_antisymmetric t.extras u.extras h.extras_in_order k.extras_in_order
    (λ d. h.extras d ∙ ap (λ gs. set.contains s.covered d && not (list_any (range_has d) gs)) ranges ∙ sym (k.extras d)) in
    let live : t.live ≡ u.live = h.live ∙ sym k.live in
    λ i. record { ranges = ranges i; extras = extras i; live = live i }

one_full_in_runs : (s : DotRows) (t u : ToldValue) → IsFullInRuns s t → IsFullInRuns s u → t ≡ u
one_full_in_runs s t u h k =
    let ranges : t.ranges ≡ u.ranges = same_ranges_apart t.ranges u.ranges h.some k.some h.apart k.apart (λ d. h.ranges d ∙ sym (k.ranges d)) in
    let extras : t.extras ≡ u.extras = h.extras ∙ sym k.extras in
    let live : t.live ≡ u.live = h.live ∙ sym k.live in
    λ i. record { ranges = ranges i; extras = extras i; live = live i }

pub one_full : OneFull
one_full One s t u h k = one_full_in_tops s t u h k
one_full Two s t u h k = one_full_in_runs s t u h k

-- in either form it covers what the set covers, and its live rows are the set's
pub covers_full : (form : ToldForm) (s : DotRows) (t : ToldValue) → IsFullIn form s t → (d : Dot) → covers t d ≡ set.contains s.covered d
covers_full One s t h d = covers_all s t h d
covers_full Two s t h d = covers_in_runs s t h d

pub rows_full : (form : ToldForm) (s : DotRows) (t : ToldValue) → IsFullIn form s t → (d : Dot) → live_row t d ≡ map.get s.live d
rows_full One s t h d = rows_all s t h d
rows_full Two s t h d = rows_listed s t h.live d

pub tells_the_same : FormsTellTheSame
tells_the_same form other s t u h k d = (covers_full form s t h d ∙ sym (covers_full other s u k d), rows_full form s t h d ∙ sym (rows_full other s u k d))

pub fulls_in_order : FullsAreInOrder
fulls_in_order One s t h = no_repeat replica_cmp (replicas_of t.ranges) h.ranges_in_order
fulls_in_order Two s t h = runs_not_astray s t h
