-- The set of dots that runs stand for.
use Rattle.std.proofs.Common.{◌≡◌, ℕ, ◌+◌, ◌-◌, ◌≤◌, suc, zero, Bool, true, false, not, cond, ◌&&◌, ◌||◌, ltb, leb, eqb, List, [], ◌∷◌, ◌++◌, arith, refl, sym, ◌∙◌, ap, Option, Some, None, Ordering, Result, Ok, Err, OnOk, OnErr, is_some, nat_lt, nat_le, length, subst, ◌<◌}
use Rattle.std.proofs.lemmas.Bool.{and_from, or_left, lt-ltb, le-leb}
use Rattle.std.proofs.lemmas.Bool.Decides.{nat_tests}
use Rattle.std.specs.List.{list_any}
use Rattle.std.specs.Ordering.{eq_by_cmp, is_eq, nat_cmp, ordering_then}
use Rattle.std.specs.declared.cmp.Ordering.TheVariants.{Less, Equal, Greater}
use Rattle.std.specs.Cmp.{IsTotalOrder, nat_cmp_total, then_total, on_total, eq_by_cmp_equiv}
use Rattle.std.specs.Cmp.Lexicographic.{nat_list_cmp_total, slice_cmp}
use Rattle.std.specs.FinSet as set
use Rattle.std.specs.Map.{lookup}
use Rattle.presence_base.specs.declared.dots.Replica.{Replica}
use Rattle.presence_base.specs.declared.dots.Dot.{Dot}
use Rattle.presence_base.specs.Order.{replica_cmp, dot_cmp, same_replica}
use Rattle.dot_context.specs.Runs.{holds, in_run, AreRuns, AreApart, top_count}
use Rattle.std.specs.BTreeMap.{get}
use Rattle.dot_context.specs.Sets.{DotSet, RunsOf, SomeDot, TellsIfAny, HasSome, IsCompact, span, range, in_range, run_dots, set_of, others_dots, listed, runs_at}

pub replica_total : IsTotalOrder replica_cmp
replica_total = then_total (on_total (λ r. r.name) nat_list_cmp_total) (on_total (λ r. r.incarnation) nat_cmp_total)

pub dot_total : IsTotalOrder dot_cmp
dot_total = then_total (on_total (λ d. d.replica) replica_total) (on_total (λ d. d.count) nat_cmp_total)

-- whether the runs that a look-up found hold a count
abbrev pub held : Option (List (ℕ × ℕ)) → ℕ → Bool
held o n = holds (listed o) n

both_equal : (o p : Ordering) → ordering_then o p ≡ Equal → (o ≡ Equal) × (p ≡ Equal)
both_equal Less p e = absurd (cc)
both_equal Equal p e = (refl, e)
both_equal Greater p e = absurd (cc)

pub replica_antisymmetric : set.IsAntisymmetric replica_cmp
replica_antisymmetric x y e =
    let parts = both_equal (slice_cmp nat_cmp x.name y.name) (nat_cmp x.incarnation y.incarnation) e in
    let names : x.name ≡ y.name = set.slice_cmp-IsAntisymmetric set.nat_cmp-IsAntisymmetric x.name y.name parts.0 in
    let incarnations : x.incarnation ≡ y.incarnation = set.nat_cmp-IsAntisymmetric x.incarnation y.incarnation parts.1 in
    λ i. record { name = names i; incarnation = incarnations i }

pub dot_antisymmetric : set.IsAntisymmetric dot_cmp
dot_antisymmetric x y e =
    let parts = both_equal (replica_cmp x.replica y.replica) (nat_cmp x.count y.count) e in
    let replicas : x.replica ≡ y.replica = replica_antisymmetric x.replica y.replica parts.0 in
    let counts : x.count ≡ y.count = set.nat_cmp-IsAntisymmetric x.count y.count parts.1 in
    λ i. record { replica = replicas i; count = counts i }

same_dot : (o : Ordering) (m n : ℕ) → is_eq (ordering_then o (nat_cmp m n)) ≡ (is_eq o && eqb m n)
same_dot Less m n = refl
same_dot Equal m n = grind (arith, nat_tests)
same_dot Greater m n = refl

and_or : (a b c : Bool) → ((a && b) || (a && c)) ≡ (a && (b || c))
and_or true b c = refl
and_or false b c = refl

pub any_append : (p : Dot → Bool) (xs ys : List Dot) → list_any p (xs ++ ys) ≡ (list_any p xs || list_any p ys)
any_append p [] ys = refl
any_append p (x ∷ xs) ys = ap (λ b. p x || b) (any_append p xs ys) ∙ groups (p x) (list_any p xs) (list_any p ys)
  where
    groups : (a b c : Bool) → (a || (b || c)) ≡ ((a || b) || c)
    groups true b c = refl
    groups false b c = refl

next_or : (from n k : ℕ) → (eqb n (suc from) || (ltb (suc from) n && leb n (suc from + k))) ≡ (ltb from n && leb n (from + suc k))
next_or from n k = grind (arith, nat_tests)

pub and_false : (a : Bool) → false ≡ (a && false)
and_false true = refl
and_false false = refl

no_count : (from n : ℕ) → false ≡ (ltb from n && leb n (from + 0))
no_count from n = grind (arith, nat_tests)

in_span : (q : Dot) (r : Replica) (from k : ℕ) → list_any (eq_by_cmp dot_cmp q) (span r from k) ≡ (same_replica q.replica r && (ltb from q.count && leb q.count (from + k)))
in_span q r from zero = and_false (same_replica q.replica r) ∙ ap (λ b. same_replica q.replica r && b) (no_count from q.count)
in_span q r from (suc k) =
    ap (λ b. b || list_any (eq_by_cmp dot_cmp q) (span r (suc from) k)) (same_dot (replica_cmp q.replica r) q.count (suc from))
    ∙ ap (λ b. (same_replica q.replica r && eqb q.count (suc from)) || b) (in_span q r (suc from) k)
    ∙ and_or (same_replica q.replica r) (eqb q.count (suc from)) (ltb (suc from) q.count && leb q.count (suc from + k))
    ∙ ap (λ b. same_replica q.replica r && b) (next_or from q.count k)

up_to : (from to n : ℕ) → (ltb from n && leb n (from + (to - from))) ≡ (ltb from n && leb n to)
up_to from to n = grind (arith, nat_tests)

in_span_to : (q : Dot) (r : Replica) (from to : ℕ) → list_any (eq_by_cmp dot_cmp q) (span r from (to - from)) ≡ in_range r from to q
in_span_to q r from to = in_span q r from (to - from) ∙ ap (λ b. same_replica q.replica r && b) (up_to from to q.count)

pub contains-range : (r : Replica) (from to : ℕ) (q : Dot) → set.contains (range r from to) q ≡ in_range r from to q
unfolding range
contains-range r from to q = set.contains-from_list dot_total (span r from (to - from)) q ∙ in_span_to q r from to

pub in_run_dots : (q : Dot) (r : Replica) (rs : List (ℕ × ℕ)) → list_any (eq_by_cmp dot_cmp q) (run_dots r rs) ≡ (same_replica q.replica r && holds rs q.count)
in_run_dots q r [] = and_false (same_replica q.replica r)
in_run_dots q r (x ∷ xs) =
    any_append (eq_by_cmp dot_cmp q) (span r x.0 (x.1 - x.0)) (run_dots r xs)
    ∙ ap (λ b. b || list_any (eq_by_cmp dot_cmp q) (run_dots r xs)) (in_span_to q r x.0 x.1)
    ∙ ap (λ b. in_range r x.0 x.1 q || b) (in_run_dots q r xs)
    ∙ and_or (same_replica q.replica r) (in_run x q.count) (holds xs q.count)

pub contains-without : (s : DotSet) (r : Replica) (q : Dot) → set.contains (others_dots s r) q ≡ (set.contains s q && not (same_replica q.replica r))
unfolding others_dots
contains-without s r q = set.contains-retain s (λ d. not (same_replica d.replica r)) q (λ x e. ap (λ (d : Dot). not (same_replica d.replica r)) (sym (dot_antisymmetric q x e)))

chosen : (same b : Bool) (o : Bool) → ((same && b) || (o && not same)) ≡ cond same b o
chosen true b true = first_or_none b
  where
    first_or_none : (b : Bool) → (b || false) ≡ b
    first_or_none true = refl
    first_or_none false = refl
chosen true b false = last b
  where
    last : (b : Bool) → (b || false) ≡ b
    last true = refl
    last false = refl
chosen false b true = refl
chosen false b false = refl

held_cond : (same : Bool) (rs : List (ℕ × ℕ)) (o : Option (List (ℕ × ℕ))) (n : ℕ) → cond same (holds rs n) (held o n) ≡ held (cond same (Some rs) o) n
held_cond true rs o n = refl
held_cond false rs o n = refl

-- a dot is in the set where the runs of its replica hold its count
pub contains-set_of : (es : List (Replica × List (ℕ × ℕ))) (q : Dot) → set.contains (set_of es) q ≡ held (lookup (same_replica q.replica) es) q.count
unfolding set_of
contains-set_of [] q = set.contains-empty dot_cmp q
contains-set_of (e ∷ es) q =
    set.contains-union dot_total (set.from_list (run_dots e.0 e.1)) (set.retain (set_of es) (λ d. not (same_replica d.replica e.0))) q
    ∙ ap (λ b. b || set.contains (set.retain (set_of es) (λ d. not (same_replica d.replica e.0))) q) (set.contains-from_list dot_total (run_dots e.0 e.1) q ∙ in_run_dots q e.0 e.1)
    ∙ ap (λ b. (same_replica q.replica e.0 && holds e.1 q.count) || b) (set.contains-retain (set_of es) (λ d. not (same_replica d.replica e.0)) q (λ x e'. ap (λ (d : Dot). not (same_replica d.replica e.0)) (sym (dot_antisymmetric q x e'))))
    ∙ ap (λ b. (same_replica q.replica e.0 && holds e.1 q.count) || (b && not (same_replica q.replica e.0))) (contains-set_of es q)
    ∙ chosen (same_replica q.replica e.0) (holds e.1 q.count) (held (lookup (same_replica q.replica) es) q.count)
    ∙ held_cond (same_replica q.replica e.0) e.1 (lookup (same_replica q.replica) es) q.count

none_below : (low n : ℕ) (rs : List (ℕ × ℕ)) → AreApart low rs → n ≤ low → holds rs n ≡ false
none_below low n [] h le = refl
none_below low n (r ∷ rs) h le = grind (arith, nat_tests, none_below (suc r.1) n rs h.2)

pub top_held : (rs : List (ℕ × ℕ)) (n : ℕ) → AreApart 0 rs → 1 ≤ n → n ≤ top_count rs → holds rs n ≡ true
top_held [] n h some le = absurd (omega arith)
top_held (r ∷ rs) n h some le = grind (arith, nat_tests)

pub next_not_held : (rs : List (ℕ × ℕ)) → AreApart 0 rs → holds rs (top_count rs + 1) ≡ false
next_not_held [] h = refl
next_not_held (r ∷ rs) h = grind (arith, nat_tests, none_below (suc r.1) (top_count (r ∷ rs) + 1) rs h.2)

-- two maps of runs with the same look-ups, up to one change, stand for sets that differ by that change
pub set_by : (m : RunsOf) (s : DotSet) → ((q : Dot) → holds (runs_at m q.replica) q.count ≡ set.contains s q) → set_of m.entries ≡ s
set_by m s same = set.same_set dot_total dot_antisymmetric (set_of m.entries) s (λ q. contains-set_of m.entries q ∙ same q)

pub seen_at : (m : RunsOf) (s : DotSet) (q : Dot) → set_of m.entries ≡ s → holds (runs_at m q.replica) q.count ≡ set.contains s q
seen_at m s q e = sym (contains-set_of m.entries q) ∙ ap (λ t. set.contains t q) e

-- a replica that is there has a dot, and one that is not has none
pub any_dots : (m : RunsOf) (s : DotSet) (r : Replica) (b : Bool) → set_of m.entries ≡ s → IsCompact m → b ≡ is_some (get replica_cmp m r) → TellsIfAny s r b
any_dots m s r b is compact same = subst (TellsIfAny s r) (sym same) (go (get replica_cmp m r) refl)
  where
    at : (n : ℕ) → set.contains s (record { replica = r; count = n }) ≡ holds (runs_at m r) n
    at n = sym (seen_at m s (record { replica = r; count = n }) is)

    first : (rs : List (ℕ × ℕ)) → runs_at m r ≡ rs → 0 < length rs → AreRuns 0 rs → SomeDot s r
    first [] e some runs = absurd (omega (arith, some))
    first (x ∷ xs) e some runs = record {
      count = x.1;
      there = at x.1 ∙ (ap (λ ys. holds ys x.1) e ∙ or_left (in_run x x.1) (holds xs x.1) (and_from (nat_lt x.0 x.1) (nat_le x.1 x.1) (lt-ltb x.0 x.1 runs.1) (le-leb x.1 x.1 (omega arith))));
    }

    go : (o : Option (List (ℕ × ℕ))) → get replica_cmp m r ≡ o → TellsIfAny s r (is_some o)
    go None e = λ n. at n ∙ ap (λ o. holds (listed o) n) e
    go (Some rs) e = first rs (ap listed e) (subst HasSome e (compact.some r)) (subst (AreRuns 0) (ap listed e) (compact.runs r))

pub united : (m n : RunsOf) (s : DotSet) (r : Replica) (from to : ℕ) → set_of m.entries ≡ s
    → ((q : Dot) → holds (runs_at n q.replica) q.count ≡ (holds (runs_at m q.replica) q.count || in_range r from to q)) → set_of n.entries ≡ set.union s (range r from to)
united m n s r from to e step = set_by n (set.union s (range r from to)) (λ q.
    step q ∙ ap (λ b. b || in_range r from to q) (seen_at m s q e) ∙ ap (λ b. set.contains s q || b) (sym (contains-range r from to q)) ∙ sym (set.contains-union dot_total s (range r from to) q))

pub unmoved : (m n : RunsOf) (s : DotSet) → set_of m.entries ≡ s → ((q : Dot) → holds (runs_at n q.replica) q.count ≡ holds (runs_at m q.replica) q.count) → set_of n.entries ≡ s
unmoved m n s e step = set_by n s (λ q. step q ∙ seen_at m s q e)

pub nothing_added : (s : DotSet) (r : Replica) (from to : ℕ) → to ≤ from → s ≡ set.union s (range r from to)
nothing_added s r from to le = set.same_set dot_total dot_antisymmetric s (set.union s (range r from to)) (λ q.
    none_more (set.contains s q) (same_replica q.replica r) from to q.count le ∙ ap (λ b. set.contains s q || b) (sym (contains-range r from to q)) ∙ sym (set.contains-union dot_total s (range r from to) q))
  where
    none_more : (b same : Bool) (from to n : ℕ) → to ≤ from → b ≡ (b || (same && (ltb from n && leb n to)))
    none_more true same from to n le = refl
    none_more false true from to n le = grind (arith, nat_tests)
    none_more false false from to n le = refl

taken : (same : Bool) (o : Option (List (ℕ × ℕ))) (n : ℕ) → held (cond same None o) n ≡ (held o n && not same)
taken true None n = refl
taken true (Some rs) n = and_none (holds rs n)
  where
    and_none : (b : Bool) → false ≡ (b && false)
    and_none true = refl
    and_none false = refl
taken false None n = refl
taken false (Some rs) n = and_all (holds rs n)
  where
    and_all : (b : Bool) → b ≡ (b && true)
    and_all true = refl
    and_all false = refl

pub flipped : (r q : Replica) → same_replica r q ≡ same_replica q r
flipped r q = (eq_by_cmp_equiv replica_total).symm r q

pub forgotten : (m n : RunsOf) (s : DotSet) (r : Replica) → set_of m.entries ≡ s
    → ((q : Replica) → get replica_cmp n q ≡ cond (same_replica r q) None (get replica_cmp m q)) → set_of n.entries ≡ others_dots s r
forgotten m n s r e step = set_by n (others_dots s r) (λ q.
    ap (λ o. held o q.count) (step q.replica)
    ∙ ap (λ b. held (cond b None (get replica_cmp m q.replica)) q.count) (flipped r q.replica)
    ∙ taken (same_replica q.replica r) (get replica_cmp m q.replica) q.count
    ∙ ap (λ b. b && not (same_replica q.replica r)) (seen_at m s q e)
    ∙ sym (contains-without s r q))

pub no_entries : (m : RunsOf) → m.entries ≡ [] → set_of m.entries ≡ set.empty
unfolding set_of
no_entries m e = ap set_of e

pub is_tied : (o : Ordering) → is_eq o ≡ true → o ≡ Equal
is_tied Less e = absurd (cc)
is_tied Equal e = refl
is_tied Greater e = absurd (cc)

pub on_ok : {A E P Q : Type 0} (r : Result A E) → (P → Q) → OnOk r P → OnOk r Q
on_ok (Ok x) f h = f h
on_ok (Err e) f h = tt

pub on_err : {A E P Q : Type 0} (r : Result A E) → (P → Q) → OnErr r P → OnErr r Q
on_err (Ok x) f h = tt
on_err (Err e) f h = f h

pub joined_sets : (m a b : RunsOf) (s t : DotSet) → set_of a.entries ≡ s → set_of b.entries ≡ t
    → ((q : Dot) → holds (runs_at m q.replica) q.count ≡ (holds (runs_at a q.replica) q.count || holds (runs_at b q.replica) q.count)) → set_of m.entries ≡ set.union s t
joined_sets m a b s t e e' step = set_by m (set.union s t) (λ q.
    step q ∙ ap (λ x. x || holds (runs_at b q.replica) q.count) (seen_at a s q e) ∙ ap (λ x. set.contains s q || x) (seen_at b t q e') ∙ sym (set.contains-union dot_total s t q))

one_count : (m n : ℕ) → 1 ≤ n → (ltb (n - 1) m && leb m n) ≡ eqb m n
one_count m n some = grind (arith, nat_tests)

or_turned : (x y : Bool) → (x || y) ≡ (y || x)
or_turned true true = refl
or_turned true false = refl
or_turned false true = refl
or_turned false false = refl

pub one_dot : (s t : DotSet) (d : Dot) → 1 ≤ d.count → t ≡ set.union s (range d.replica (d.count - 1) d.count) → t ≡ set.insert s d
one_dot s t d some e = e ∙ set.same_set dot_total dot_antisymmetric (set.union s (range d.replica (d.count - 1) d.count)) (set.insert s d) (λ q.
    set.contains-union dot_total s (range d.replica (d.count - 1) d.count) q
    ∙ ap (λ b. set.contains s q || b) (contains-range d.replica (d.count - 1) d.count q)
    ∙ ap (λ b. set.contains s q || (same_replica q.replica d.replica && b)) (one_count q.count d.count some)
    ∙ ap (λ b. set.contains s q || b) (sym (same_dot (replica_cmp q.replica d.replica) q.count d.count))
    ∙ or_turned (set.contains s q) (eq_by_cmp dot_cmp q d)
    ∙ sym (set.contains-insert dot_total s d q))
