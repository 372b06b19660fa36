-- Rebirths: which own rows go on, and under which dots.
use Rattle.std.proofs.Common.{◌≡◌, ℕ, ◌+◌, ◌<◌, ◌≤◌, ◌^◌, nat_lt, nat_le, Bool, true, false, cond, not, ◌&&◌, ◌||◌, T, List, [], ◌∷◌, Option, Some, None, is_some, length, map as each, Ordering, Less, Equal, Greater, is_eq, is_lt, refl, sym, ◌∙◌, ap, subst, arith, inl, inr}
use Rattle.std.specs.Prelude.{◌⊎◌}
use Rattle.std.specs.List.{AllByRecursion, list_any}
use Rattle.std.specs.Map.{lookup}
use Rattle.std.specs.FinMap as map
use Rattle.std.specs.FinMap.Entries.{by_order, below_all, is_sorted}
use Rattle.std.specs.Ordering.{nat_cmp, ordering_then}
use Rattle.std.specs.Cmp.{ranked, tied_itself}
use Rattle.std.proofs.lemmas.Bool.{and_parts, and_from, or_left, or_right, or_cases, lt-ltb, ltb-true, ltb-false, le-leb, leb-true}
use Rattle.std.proofs.lemmas.Option.{same_Some}
use Rattle.presence_base.specs.declared.dots.Replica.{Replica}
use Rattle.presence_base.specs.declared.dots.Dot.{Dot}
use Rattle.presence_base.specs.declared.row.Row.{Row}
use Rattle.presence_base.specs.Order.{replica_cmp, dot_cmp, same_dot, same_replica}
use Rattle.orswot_core.specs.Telling.{Range, ToldValue, range_has, lies_in, is_among, covers}
use Rattle.presence_journal.specs.declared.step.Step.TheVariants as steps_are
use Rattle.presence_journal.specs.declared.entry.Outcome.TheVariants as outcomes_are
use Rattle.presence_journal.specs.Steps.{Step, Outcome}
use Rattle.presence_journal.specs.History.{History, Begin, Then, own, reborn, count, has_dot, first_some, hears, is_counted, tells_of, told_of, told_covers, known, has_dots, status, shown}
use Rattle.presence_journal.specs.Present.{dots}
use Rattle.presence_journal.specs.Table.{own_shown, DotRows, put_row, put_rows, own_dots, reborn_from, reborn_rows, is_unheard, can_be_reborn, outcome_of}
use Rattle.presence_journal.specs.Walk.{is_rebirth}
use Rattle.presence_journal.proofs.PresentLemmas.{shown-row, row_in_dots}
use Rattle.presence_journal.proofs.Same.{same_dot-true, same_dot-refl, same_replica-true, same_replica-refl, dot_total, replica_total, dot_cmp-IsAntisymmetric}

-- whose dots a told value covers

range_of : (gs : List Range) (d : Dot) → lies_in gs d ≡ true → list_any (λ g. same_replica d.replica g.0 && nat_lt g.1 g.2) gs ≡ true
range_of [] d e = absurd (cc)
range_of (g ∷ gs) d e = go (or_cases (range_has d g) (lies_in gs d) e) (range_of gs d)
  where
    here : range_has d g ≡ true → (same_replica d.replica g.0 && nat_lt g.1 g.2) ≡ true
    here p =
        let a = and_parts (same_replica d.replica g.0) (nat_lt g.1 d.count && nat_le d.count g.2) p in
        let b = and_parts (nat_lt g.1 d.count) (nat_le d.count g.2) a.1 in
        and_from (same_replica d.replica g.0) (nat_lt g.1 g.2) a.0 (lt-ltb g.1 g.2 (omega (arith, ltb-true g.1 d.count b.0, leb-true d.count g.2 b.1)))

    go : (range_has d g ≡ true) ⊎ (lies_in gs d ≡ true) → (lies_in gs d ≡ true → list_any (λ g. same_replica d.replica g.0 && nat_lt g.1 g.2) gs ≡ true) → ((same_replica d.replica g.0 && nat_lt g.1 g.2) || list_any (λ g. same_replica d.replica g.0 && nat_lt g.1 g.2) gs) ≡ true
    go (inl p) ih = or_left (same_replica d.replica g.0 && nat_lt g.1 g.2) _ (here p)
    go (inr p) ih = or_right (same_replica d.replica g.0 && nat_lt g.1 g.2) _ (ih p)

extra_of : (es : List Dot) (d : Dot) → is_among es d ≡ true → list_any (λ x. same_replica d.replica x.replica) es ≡ true
extra_of [] d e = absurd (cc)
extra_of (x ∷ xs) d e = go (or_cases (same_dot d x) (is_among xs d) e) (extra_of xs d)
  where
    go : (same_dot d x ≡ true) ⊎ (is_among xs d ≡ true) → (is_among xs d ≡ true → list_any (λ x. same_replica d.replica x.replica) xs ≡ true) → (same_replica d.replica x.replica || list_any (λ x. same_replica d.replica x.replica) xs) ≡ true
    go (inl p) ih = or_left (same_replica d.replica x.replica) _ (ap (λ (z : Dot). same_replica d.replica z.replica) (sym (same_dot-true d x p)) ∙ same_replica-refl d.replica)
    go (inr p) ih = or_right (same_replica d.replica x.replica) _ (ih p)

pub covers_of : (t : ToldValue) (d : Dot) → covers t d ≡ true → tells_of d.replica t ≡ true
covers_of t d e = go (or_cases (lies_in t.ranges d) (is_among t.extras d) e)
  where
    go : (lies_in t.ranges d ≡ true) ⊎ (is_among t.extras d ≡ true) → tells_of d.replica t ≡ true
    go (inl p) = or_left (list_any (λ g. same_replica d.replica g.0 && nat_lt g.1 g.2) t.ranges) _ (range_of t.ranges d p)
    go (inr p) = or_right (list_any (λ g. same_replica d.replica g.0 && nat_lt g.1 g.2) t.ranges) _ (extra_of t.extras d p)

told_covers_of : (h : History) (s : Step) (d : Dot) → told_covers h s d ≡ true → told_of h s d.replica ≡ true
told_covers_of h (steps_are.Merge t) d e = let p = and_parts (hears h d.replica) (covers t d) e in and_from (hears h d.replica) (tells_of d.replica t) p.0 (covers_of t d p.1)
told_covers_of h _ d e = absurd (cc)

-- where a dot is known, its replica has dots
pub known_has : (h : History) (d : Dot) → known h d ≡ true → has_dots h d.replica ≡ true
unfolding known has_dots
known_has (Begin s) d e = covers_of s.content d e
known_has (Then h e) d k = go (or_cases (known h d) (is_counted (own (Then h e)) (count (Then h e)) d || told_covers h e.step d) k) (known_has h d)
  where
    counted : is_counted (own (Then h e)) (count (Then h e)) d ≡ true → (same_replica d.replica (own (Then h e)) && nat_lt 0 (count (Then h e))) ≡ true
    counted p =
        let a = and_parts (same_replica d.replica (own (Then h e))) (nat_lt 0 d.count && nat_le d.count (count (Then h e))) p in
        let b = and_parts (nat_lt 0 d.count) (nat_le d.count (count (Then h e))) a.1 in
        and_from (same_replica d.replica (own (Then h e))) (nat_lt 0 (count (Then h e))) a.0 (lt-ltb 0 (count (Then h e)) (omega (arith, ltb-true 0 d.count b.0, leb-true d.count (count (Then h e)) b.1)))

    new : (is_counted (own (Then h e)) (count (Then h e)) d ≡ true) ⊎ (told_covers h e.step d ≡ true) → ((same_replica d.replica (own (Then h e)) && nat_lt 0 (count (Then h e))) || told_of h e.step d.replica) ≡ true
    new (inl p) = or_left (same_replica d.replica (own (Then h e)) && nat_lt 0 (count (Then h e))) _ (counted p)
    new (inr p) = or_right (same_replica d.replica (own (Then h e)) && nat_lt 0 (count (Then h e))) _ (told_covers_of h e.step d p)

    go : (known h d ≡ true) ⊎ ((is_counted (own (Then h e)) (count (Then h e)) d || told_covers h e.step d) ≡ true) → (known h d ≡ true → has_dots h d.replica ≡ true) → (has_dots h d.replica || ((same_replica d.replica (own (Then h e)) && nat_lt 0 (count (Then h e))) || told_of h e.step d.replica)) ≡ true
    go (inl p) ih = or_left (has_dots h d.replica) _ (ih p)
    go (inr p) ih = or_right (has_dots h d.replica) _ (new (or_cases (is_counted (own (Then h e)) (count (Then h e)) d) (told_covers h e.step d) p))

-- the new dots

pub lookup_among : {A : Type 0} (xs : List (Dot × A)) (d : Dot) → is_some (lookup (same_dot d) xs) ≡ has_dot (each (λ x. x.0) xs) d
lookup_among [] d = refl
lookup_among (x ∷ xs) d = go (same_dot d x.0) (lookup_among xs d)
  where
    go : (b : Bool) → is_some (lookup (same_dot d) xs) ≡ has_dot (each (λ x. x.0) xs) d → is_some (cond b (Some x.1) (lookup (same_dot d) xs)) ≡ (b || has_dot (each (λ x. x.0) xs) d)
    go true ih = refl
    go false ih = ih

pub length_reborn : (r : Replica) (n : ℕ) (ds : List Dot) → length (reborn_from r n ds) ≡ length ds
length_reborn r n [] = refl
length_reborn r n (d ∷ ds) = omega (arith, length_reborn r (n + 1) ds)

abbrev pub new_dot : Replica → ℕ → Dot
new_dot r n = record { replica = r; count = n + 1 }

-- the new dot of an old one is of the new replica, and its count is one of the next
pub again_parts : (r : Replica) (n : ℕ) (ds : List Dot) (d old : Dot) → lookup (same_dot d) (reborn_from r n ds) ≡ Some old → (d.replica ≡ r) × (n < d.count) × (d.count ≤ n + length ds) × (has_dot ds old ≡ true)
again_parts r n [] d old e = absurd (cc)
again_parts r n (x ∷ xs) d old e = go (same_dot d (new_dot r n)) refl e (again_parts r (n + 1) xs d old)
  where
    go : (b : Bool) → same_dot d (new_dot r n) ≡ b → cond b (Some x) (lookup (same_dot d) (reborn_from r (n + 1) xs)) ≡ Some old → (lookup (same_dot d) (reborn_from r (n + 1) xs) ≡ Some old → (d.replica ≡ r) × (n + 1 < d.count) × (d.count ≤ (n + 1) + length xs) × (has_dot xs old ≡ true)) → (d.replica ≡ r) × (n < d.count) × (d.count ≤ n + length (x ∷ xs)) × (has_dot (x ∷ xs) old ≡ true)
    go true p f ih =
        let z = same_dot-true d (new_dot r n) p in
        let c : d.count ≡ n + 1 = ap (λ (y : Dot). y.count) z in
        let o : old ≡ x = sym (same_Some x old f) in
        (ap (λ (y : Dot). y.replica) z, omega (arith, c), omega (arith, c), or_left (same_dot old x) (has_dot xs old) (ap (λ y. same_dot y x) o ∙ same_dot-refl x))
    go false p f ih = let w = ih f in (w.0, omega (arith, w.1), omega (arith, w.2), or_right (same_dot old x) (has_dot xs old) w.3)

-- and each of these counts is the new dot of an old one
pub record Found (ds : List Dot) (o : Option Dot) : Type 0 where
  pub old : Dot
  pub is : o ≡ Some old
  pub among : has_dot ds old ≡ true

next_count : (n c : ℕ) → n < c → nat_lt (n + 1) c ≡ false → c ≡ n + 1
next_count n c l f = omega (arith, l, ltb-false (n + 1) c f)

pub again_found : (r : Replica) (n : ℕ) (ds : List Dot) (d : Dot) → d.replica ≡ r → n < d.count → d.count ≤ n + length ds → Found ds (lookup (same_dot d) (reborn_from r n ds))
again_found r n [] d o l m = absurd (omega (arith, l, m))
again_found r n (x ∷ xs) d o l m = go (same_dot d (new_dot r n)) refl (nat_lt (n + 1) d.count) refl (λ f. again_found r (n + 1) xs d o f (omega (arith, m)))
  where
    go : (b : Bool) → same_dot d (new_dot r n) ≡ b → (c : Bool) → nat_lt (n + 1) d.count ≡ c → (n + 1 < d.count → Found xs (lookup (same_dot d) (reborn_from r (n + 1) xs))) → Found (x ∷ xs) (cond b (Some x) (lookup (same_dot d) (reborn_from r (n + 1) xs)))
    go true p c q ih = record { old = x; is = refl; among = or_left (same_dot x x) (has_dot xs x) (same_dot-refl x) }
    go false p true q ih = let w = ih (ltb-true (n + 1) d.count q) in record { old = w.old; is = w.is; among = or_right (same_dot w.old x) (has_dot xs w.old) w.among }
    go false p false q ih =
        let c : d.count ≡ n + 1 = next_count n d.count l q in
        let z : d ≡ new_dot r n = λ i. record { replica = o i; count = c i } in
        let w : false ≡ true = sym p ∙ (ap (λ y. same_dot y (new_dot r n)) z ∙ same_dot-refl (new_dot r n)) in
        absurd (cc)

-- the old dots: own ones whose rows are shown, in order

no_entries : (es : List (Dot × Row)) → length es ≡ 0 → es ≡ []
no_entries [] e = refl
no_entries (x ∷ es) e = absurd (omega arith)

entries-none : map.entries (map.empty {X = Row} {R = dot_cmp}) ≡ []
entries-none = no_entries (map.entries map.empty) (sym (map.len-entries map.empty) ∙ map.len-empty dot_cmp Row)

all_put : (P : Dot × Row → Type 0) (k : Dot) (r : Row) (es : List (Dot × Row)) → P (k, r) → AllByRecursion P es → AllByRecursion P (map.put dot_cmp k r es)
all_put P k r [] q a = (q, tt)
all_put P k r (e ∷ es) q a = go (all_put P k r es q a.1) (dot_cmp k e.0) refl
  where
    go : AllByRecursion P (map.put dot_cmp k r es) → (o : Ordering) → dot_cmp k e.0 ≡ o → AllByRecursion P (by_order o ((k, r) ∷ e ∷ es) ((e.0, r) ∷ es) (e ∷ map.put dot_cmp k r es))
    go ih Less i = (q, a)
    go ih Equal i = (subst (λ (z : Dot). P (z, r)) (same_dot-true k e.0 (ap is_eq i)) q, a.1)
    go ih Greater i = (a.0, ih)

abbrev pub Says : (Dot → Option Row) → Dot × Row → Type 0
Says f e = f e.0 ≡ Some e.1

pub all_put_rows : (f : Dot → Option Row) (ds : List Dot) → AllByRecursion (Says f) (map.entries (put_rows f ds))
all_put_rows f [] = subst (AllByRecursion (Says f)) (sym entries-none) tt
all_put_rows f (d ∷ ds) = go (all_put_rows f ds) (f d) refl
  where
    go : AllByRecursion (Says f) (map.entries (put_rows f ds)) → (o : Option Row) → f d ≡ o → AllByRecursion (Says f) (map.entries (put_row d o (put_rows f ds)))
    go ih None e = ih
    go ih (Some r) e = subst (AllByRecursion (Says f)) (sym (map.entries-insert dot_total (put_rows f ds) d r)) (all_put (Says f) d r (map.entries (put_rows f ds)) e ih)

-- an own row that is shown, and goes on
pub record GoesOn (h : History) (d : Dot) : Type 0 where
  pub row : Row
  pub shown : shown h d ≡ Some row
  pub own : d.replica ≡ own h

goes_on : (h : History) (e : Dot × Row) → Says (own_shown h) e → GoesOn h e.0
goes_on h e s = go (same_replica e.0.replica (own h)) refl s
  where
    go : (b : Bool) → same_replica e.0.replica (own h) ≡ b → cond b (shown h e.0) None ≡ Some e.1 → GoesOn h e.0
    go true p f = record { row = e.1; shown = f; own = same_replica-true e.0.replica (own h) p }
    go false p f = absurd (cc)

among_all : (P : Dot → Type 0) (es : List (Dot × Row)) (d : Dot) → AllByRecursion (λ e. P e.0) es → has_dot (each (λ e. e.0) es) d ≡ true → P d
among_all P [] d a k = absurd (cc)
among_all P (e ∷ es) d a k = go (or_cases (same_dot d e.0) (has_dot (each (λ e. e.0) es) d) k) (among_all P es d a.1)
  where
    go : (same_dot d e.0 ≡ true) ⊎ (has_dot (each (λ e. e.0) es) d ≡ true) → (has_dot (each (λ e. e.0) es) d ≡ true → P d) → P d
    go (inl p) ih = subst P (sym (same_dot-true d e.0 p)) a.0
    go (inr p) ih = ih p

all_weaker : (P Q : Dot × Row → Type 0) → ((e : Dot × Row) → P e → Q e) → (es : List (Dot × Row)) → AllByRecursion P es → AllByRecursion Q es
all_weaker P Q f [] a = tt
all_weaker P Q f (e ∷ es) a = (f e a.0, all_weaker P Q f es a.1)

all_go_on : (h : History) → AllByRecursion (λ e. GoesOn h e.0) (map.entries (put_rows (own_shown h) (dots h)))
all_go_on h = all_weaker (Says (own_shown h)) (λ e. GoesOn h e.0) (goes_on h) (map.entries (put_rows (own_shown h) (dots h))) (all_put_rows (own_shown h) (dots h))

pub own_dot : (h : History) (d : Dot) → has_dot (own_dots h) d ≡ true → GoesOn h d
unfolding own_dots
own_dot h d k = among_all (GoesOn h) (map.entries (put_rows (own_shown h) (dots h))) d (all_go_on h) k

-- and each such row's dot is among them

first_same : (b : Bool) (o : Option Row) → first_some o (cond b o None) ≡ o
first_same true None = refl
first_same false None = refl
first_same b (Some x) = refl

same_both : (b : Bool) (o : Option Row) → o ≡ cond b o o
same_both true o = refl
same_both false o = refl

get-put_row : (d : Dot) (o : Option Row) (m : DotRows) (q : Dot) → map.get (put_row d o m) q ≡ cond (same_dot q d) (first_some o (map.get m q)) (map.get m q)
get-put_row d None m q = same_both (same_dot q d) (map.get m q)
get-put_row d (Some r) m q = map.get-insert dot_total m d r q

get-put_rows : (f : Dot → Option Row) (ds : List Dot) (q : Dot) → map.get (put_rows f ds) q ≡ cond (has_dot ds q) (f q) None
get-put_rows f [] q = map.get-empty dot_cmp q
get-put_rows f (d ∷ ds) q = get-put_row d (f d) (put_rows f ds) q ∙ (ap (λ o. cond (same_dot q d) (first_some (f d) o) o) (get-put_rows f ds q) ∙ go (same_dot q d) refl)
  where
    go : (b : Bool) → same_dot q d ≡ b → cond b (first_some (f d) (cond (has_dot ds q) (f q) None)) (cond (has_dot ds q) (f q) None) ≡ cond (b || has_dot ds q) (f q) None
    go true e = ap (λ z. first_some (f z) (cond (has_dot ds q) (f q) None)) (sym (same_dot-true q d e)) ∙ first_same (has_dot ds q) (f q)
    go false e = refl

pub own_dots_has : (h : History) (d : Dot) (r : Row) → d.replica ≡ own h → shown h d ≡ Some r → has_dot (own_dots h) d ≡ true
unfolding own_dots
own_dots_has h d r o s =
    let there : has_dot (dots h) d ≡ true = row_in_dots h d r (shown-row h d r s).0 in
    let mine : same_replica d.replica (own h) ≡ true = ap (λ q. same_replica q (own h)) o ∙ same_replica-refl (own h) in
    sym (map.contains_key-keys (put_rows (own_shown h) (dots h)) d)
    ∙ ap is_some (get-put_rows (own_shown h) (dots h) d ∙ ((λ i. cond (there i) (cond (mine i) (shown h d) None) None) ∙ s))

-- so histories that show the same own rows have the same old dots

pub get_own : (h : History) (d : Dot) → map.get (put_rows (own_shown h) (dots h)) d ≡ own_shown h d
get_own h d = get-put_rows (own_shown h) (dots h) d ∙ go (same_replica d.replica (own h)) (shown h d) refl
  where
    none : (b : Bool) → cond {A = Option Row} b None None ≡ None
    none true = refl
    none false = refl

    go : (b : Bool) (o : Option Row) → shown h d ≡ o → cond (has_dot (dots h) d) (cond b o None) None ≡ cond b o None
    go true None e = none (has_dot (dots h) d)
    go false o e = none (has_dot (dots h) d)
    go true (Some r) e = ap (λ b. cond b (Some r) None) (row_in_dots h d r (shown-row h d r e).0)

pub same_own_dots : (g h : History) → own g ≡ own h → ((d : Dot) → shown g d ≡ shown h d) → own_dots g ≡ own_dots h
unfolding own_dots
same_own_dots g h mine same =
    ap (λ (m : DotRows). each (λ e. e.0) (map.entries m))
    (map.same_map dot_total dot_cmp-IsAntisymmetric (put_rows (own_shown g) (dots g)) (put_rows (own_shown h) (dots h))
    (λ d. get_own g d ∙ ((λ i. cond (same_replica d.replica (mine i)) (same d i) None) ∙ sym (get_own h d))))

-- of one replica, dots in order have rising counts

first_true : (a b : Bool) → T (a && b) → T a
first_true true b p = tt
first_true false b p = p

second_true : (a b : Bool) → T (a && b) → T b
second_true true b p = p
second_true false b p = absurd p

count_below : (d e : Dot) → d.replica ≡ e.replica → T (is_lt (dot_cmp d e)) → d.count < e.count
count_below d e same l = go (nat_cmp d.count e.count) refl (subst (λ o. T (is_lt (ordering_then o (nat_cmp d.count e.count)))) tied l)
  where
    tied : replica_cmp d.replica e.replica ≡ Equal
    tied = ap (replica_cmp d.replica) (sym same) ∙ tied_itself replica_total d.replica

    go : (o : Ordering) → nat_cmp d.count e.count ≡ o → T (is_lt o) → d.count < e.count
    go Less i p = ranked d.count e.count Less (sym i)
    go Equal i p = absurd p
    go Greater i p = absurd p

abbrev pub Lies : Replica → ℕ → ℕ → Dot × Row → Type 0
Lies r low high e = (e.0.replica ≡ r) × (low < e.0.count) × (e.0.count ≤ high)

above_all : (r : Replica) (low high : ℕ) (x : Dot) (es : List (Dot × Row)) → x.replica ≡ r → T (below_all dot_cmp x es) → AllByRecursion (Lies r low high) es → AllByRecursion (Lies r x.count high) es
above_all r low high x [] o b a = tt
above_all r low high x (e ∷ es) o b a = ((a.0.0, count_below x e.0 (o ∙ sym a.0.0) (first_true (is_lt (dot_cmp x e.0)) _ b), a.0.2), above_all r low high x es o (second_true (is_lt (dot_cmp x e.0)) _ b) a.1)

rising : (r : Replica) (low high : ℕ) (es : List (Dot × Row)) → low ≤ high → T (is_sorted dot_cmp es) → AllByRecursion (Lies r low high) es → length es + low ≤ high
rising r low high [] l s a = omega (arith, l)
rising r low high (e ∷ es) l s a =
    let rest = rising r e.0.count high es a.0.2 (second_true (below_all dot_cmp e.0 es) _ s) (above_all r low high e.0 es a.0.0 (first_true (below_all dot_cmp e.0 es) _ s) a.1) in
    omega (arith, rest, a.0.1)

length-each : (es : List (Dot × Row)) → length (each (λ e. e.0) es) ≡ length es
length-each [] = refl
length-each (e ∷ es) = omega (arith, length-each es)

-- so there are no more of them than counts
pub own_dots_most : (h : History) (n : ℕ) → ((d : Dot) → GoesOn h d → (0 < d.count) × (d.count ≤ n)) → length (own_dots h) ≤ n
unfolding own_dots
own_dots_most h n counted =
    let es = map.entries (put_rows (own_shown h) (dots h)) in
    let lie = all_weaker (λ e. GoesOn h e.0) (Lies (own h) 0 n) (λ e g. let c = counted e.0 g in (g.own, c.0, c.1)) es (all_go_on h) in
    omega (arith, length-each es, rising (own h) 0 n es (omega arith) (map.entries_sorted (put_rows (own_shown h) (dots h))) lie)

-- where a replica has dots, one of them is known

pub record SomeIn (f : Dot → Bool) (r : Replica) : Type 0 where
  pub dot : Dot
  pub of : dot.replica ≡ r
  pub has : f dot ≡ true

some_range : (r : Replica) (gs : List Range) → list_any (λ g. same_replica r g.0 && nat_lt g.1 g.2) gs ≡ true → SomeIn (lies_in gs) r
some_range r [] e = absurd (cc)
some_range r (g ∷ gs) e = go (or_cases (same_replica r g.0 && nat_lt g.1 g.2) (list_any (λ x. same_replica r x.0 && nat_lt x.1 x.2) gs) e) (some_range r gs)
  where
    go : ((same_replica r g.0 && nat_lt g.1 g.2) ≡ true) ⊎ (list_any (λ x. same_replica r x.0 && nat_lt x.1 x.2) gs ≡ true) → (list_any (λ x. same_replica r x.0 && nat_lt x.1 x.2) gs ≡ true → SomeIn (lies_in gs) r) → SomeIn (lies_in (g ∷ gs)) r
    go (inl p) ih =
        let a = and_parts (same_replica r g.0) (nat_lt g.1 g.2) p in
        let l = ltb-true g.1 g.2 a.1 in
        record {
          dot = new_dot r g.1;
          of = refl;
          has = or_left (range_has (new_dot r g.1) g) (lies_in gs (new_dot r g.1))
              (and_from (same_replica r g.0) (nat_lt g.1 (g.1 + 1) && nat_le (g.1 + 1) g.2) a.0
              (and_from (nat_lt g.1 (g.1 + 1)) (nat_le (g.1 + 1) g.2) (lt-ltb g.1 (g.1 + 1) (omega arith)) (le-leb (g.1 + 1) g.2 (omega (arith, l)))));
        }
    go (inr p) ih = let x = ih p in record { dot = x.dot; of = x.of; has = or_right (range_has x.dot g) (lies_in gs x.dot) x.has }

some_extra : (r : Replica) (es : List Dot) → list_any (λ d. same_replica r d.replica) es ≡ true → SomeIn (is_among es) r
some_extra r [] e = absurd (cc)
some_extra r (x ∷ xs) e = go (or_cases (same_replica r x.replica) (list_any (λ d. same_replica r d.replica) xs) e) (some_extra r xs)
  where
    go : (same_replica r x.replica ≡ true) ⊎ (list_any (λ d. same_replica r d.replica) xs ≡ true) → (list_any (λ d. same_replica r d.replica) xs ≡ true → SomeIn (is_among xs) r) → SomeIn (is_among (x ∷ xs)) r
    go (inl p) ih = record { dot = x; of = sym (same_replica-true r x.replica p); has = or_left (same_dot x x) (is_among xs x) (same_dot-refl x) }
    go (inr p) ih = let y = ih p in record { dot = y.dot; of = y.of; has = or_right (same_dot y.dot x) (is_among xs y.dot) y.has }

some_covered : (r : Replica) (t : ToldValue) → tells_of r t ≡ true → SomeIn (covers t) r
some_covered r t e = go (or_cases (list_any (λ g. same_replica r g.0 && nat_lt g.1 g.2) t.ranges) (list_any (λ d. same_replica r d.replica) t.extras) e)
  where
    go : (list_any (λ g. same_replica r g.0 && nat_lt g.1 g.2) t.ranges ≡ true) ⊎ (list_any (λ d. same_replica r d.replica) t.extras ≡ true) → SomeIn (covers t) r
    go (inl p) = let x = some_range r t.ranges p in record { dot = x.dot; of = x.of; has = or_left (lies_in t.ranges x.dot) (is_among t.extras x.dot) x.has }
    go (inr p) = let x = some_extra r t.extras p in record { dot = x.dot; of = x.of; has = or_right (lies_in t.ranges x.dot) (is_among t.extras x.dot) x.has }

some_told : (h : History) (s : Step) (r : Replica) → told_of h s r ≡ true → SomeIn (told_covers h s) r
some_told h (steps_are.Merge t) r e =
    let p = and_parts (hears h r) (tells_of r t) e in
    let x = some_covered r t p.1 in
    record { dot = x.dot; of = x.of; has = and_from (hears h x.dot.replica) (covers t x.dot) (ap (hears h) x.of ∙ p.0) x.has }
some_told h _ r e = absurd (cc)

pub some_known : (h : History) (r : Replica) → has_dots h r ≡ true → SomeIn (known h) r
unfolding has_dots known
some_known (Begin s) r e = some_covered r s.content e
some_known (Then h e) r k = go (or_cases (has_dots h r) ((same_replica r (own (Then h e)) && nat_lt 0 (count (Then h e))) || told_of h e.step r) k) (some_known h r)
  where
    new : ((same_replica r (own (Then h e)) && nat_lt 0 (count (Then h e))) ≡ true) ⊎ (told_of h e.step r ≡ true) → SomeIn (λ d. known h d || (is_counted (own (Then h e)) (count (Then h e)) d || told_covers h e.step d)) r
    new (inl p) =
        let a = and_parts (same_replica r (own (Then h e))) (nat_lt 0 (count (Then h e))) p in
        let l = ltb-true 0 (count (Then h e)) a.1 in
        record {
          dot = new_dot r 0;
          of = refl;
          has = or_right (known h (new_dot r 0)) _ (or_left (is_counted (own (Then h e)) (count (Then h e)) (new_dot r 0)) (told_covers h e.step (new_dot r 0))
              (and_from (same_replica r (own (Then h e))) (nat_lt 0 (0 + 1) && nat_le (0 + 1) (count (Then h e))) a.0 (and_from (nat_lt 0 (0 + 1)) (nat_le (0 + 1) (count (Then h e))) (lt-ltb 0 (0 + 1) (omega arith)) (le-leb (0 + 1) (count (Then h e)) (omega (arith, l))))));
        }
    new (inr p) = let x = some_told h e.step r p in record { dot = x.dot; of = x.of; has = or_right (known h x.dot) _ (or_right (is_counted (own (Then h e)) (count (Then h e)) x.dot) (told_covers h e.step x.dot) x.has) }

    go : (has_dots h r ≡ true) ⊎ (((same_replica r (own (Then h e)) && nat_lt 0 (count (Then h e))) || told_of h e.step r) ≡ true) → (has_dots h r ≡ true → SomeIn (known h) r) → SomeIn (λ d. known h d || (is_counted (own (Then h e)) (count (Then h e)) d || told_covers h e.step d)) r
    go (inl p) ih = let x = ih p in record { dot = x.dot; of = x.of; has = or_left (known h x.dot) _ x.has }
    go (inr p) ih = new (or_cases (same_replica r (own (Then h e)) && nat_lt 0 (count (Then h e))) (told_of h e.step r) p)

-- so histories that know the same dots of a replica agree whether it has dots
pub same_has : (g h : History) (r : Replica) → ((d : Dot) → d.replica ≡ r → known g d ≡ known h d) → has_dots g r ≡ has_dots h r
same_has g h r same = go (has_dots g r) (has_dots h r) refl refl
  where
    go : (b c : Bool) → has_dots g r ≡ b → has_dots h r ≡ c → b ≡ c
    go true true e f = refl
    go false false e f = refl
    go true false e f =
        let x = some_known g r e in
        let w : true ≡ false = sym (ap (has_dots h) (sym x.of) ∙ known_has h x.dot (sym (same x.dot x.of) ∙ x.has)) ∙ f in
        absurd (cc)
    go false true e f =
        let x = some_known h r f in
        let w : true ≡ false = sym (ap (has_dots g) (sym x.of) ∙ known_has g x.dot (same x.dot x.of ∙ x.has)) ∙ e in
        absurd (cc)

-- what a rebirth that the table accepts is
pub record IsAgain (h : History) (s : Step) (o : Outcome) : Type 0 where
  pub incarnation : ℕ
  pub step : s ≡ steps_are.Rebirth incarnation
  pub outcome : o ≡ outcomes_are.Reborn (reborn_from (reborn (own h) incarnation) 0 (own_dots h))
  pub above : (own h).incarnation < incarnation
  pub most : incarnation ≤ 2 ^ 62
  pub unheard : is_unheard (status h (reborn (own h) incarnation)) ≡ true
  pub fresh : has_dots h (reborn (own h) incarnation) ≡ false

not_false : (b : Bool) → not b ≡ true → b ≡ false
not_false true e = absurd (cc)
not_false false e = refl

pub can_parts : (h : History) (i : ℕ) → can_be_reborn h i ≡ true → ((own h).incarnation < i) × (i ≤ 2 ^ 62) × (is_unheard (status h (reborn (own h) i)) ≡ true) × (has_dots h (reborn (own h) i) ≡ false)
unfolding can_be_reborn
can_parts h i e =
    let a = and_parts (nat_lt (own h).incarnation i) _ e in
    let b = and_parts (nat_le i (2 ^ 62)) _ a.1 in
    let c = and_parts _ (not (has_dots h (reborn (own h) i))) b.1 in
    (ltb-true (own h).incarnation i a.0, leb-true i (2 ^ 62) b.0, c.0, not_false (has_dots h (reborn (own h) i)) c.1)

again_rebirth : (h : History) (i : ℕ) (o : Outcome) → outcome_of h (steps_are.Rebirth i) ≡ Some o → IsAgain h (steps_are.Rebirth i) o
unfolding outcome_of
again_rebirth h i o e = go (can_be_reborn h i) refl e
  where
    go : (b : Bool) → can_be_reborn h i ≡ b → reborn_rows b (reborn (own h) i) (own_dots h) ≡ Some o → IsAgain h (steps_are.Rebirth i) o
    go true p f = let c = can_parts h i p in record { incarnation = i; step = refl; outcome = sym (same_Some _ o f); above = c.0; most = c.1; unheard = c.2; fresh = c.3 }
    go false p f = absurd (cc)

-- an accepted rebirth can be
pub reborn_can : (h : History) (i : ℕ) (pairs : List (Dot × Dot)) → outcome_of h (steps_are.Rebirth i) ≡ Some (outcomes_are.Reborn pairs) → can_be_reborn h i ≡ true
unfolding outcome_of
reborn_can h i pairs e = go (can_be_reborn h i) refl e
  where
    go : (b : Bool) → can_be_reborn h i ≡ b → reborn_rows b (reborn (own h) i) (own_dots h) ≡ Some (outcomes_are.Reborn pairs) → b ≡ true
    go true p f = refl
    go false p f = absurd (cc)

pub again_of : (h : History) (s : Step) (o : Outcome) → is_rebirth s ≡ true → outcome_of h s ≡ Some o → IsAgain h s o
again_of h (steps_are.Rebirth i) o f e = again_rebirth h i o e
again_of h _ o f e = absurd (cc)
