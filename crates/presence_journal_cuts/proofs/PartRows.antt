-- What is made for a part of rows of one replica whose counts ascend: the runs between them, and the first of them above a count.
use Rattle.std.proofs.Common.{◌≡◌, ℕ, suc, ◌+◌, ◌-◌, ◌<◌, ◌≤◌, Bool, true, false, cond, ◌&&◌, ◌||◌, ◌==◌, nat_lt, nat_le, nat_eq, List, [], ◌∷◌, ◌++◌, length, Option, Some, None, is_none, refl, sym, ◌∙◌, ap, subst, arith, inl, inr, ltb-true, leb-true, leb-false, le-leb, eqb-true, Ordering}
use Rattle.std.specs.Prelude.{◌⊎◌, IsSome}
use Rattle.std.specs.List.{AllByRecursion, list_any, list_all}
use Rattle.std.specs.List.Sorted.{IsStrictlySortedBy}
use Rattle.std.specs.Map.{lookup, keys_of}
use Rattle.std.specs.Ordering.{nat_cmp, ordering_then}
use Rattle.std.specs.Cmp.{tied_itself}
use Rattle.std.specs.declared.cmp.Ordering.TheVariants.{Less, Equal, Greater}
use Rattle.std.proofs.lemmas.Bool.{cases_lt, both_ways}
use Rattle.std.proofs.lemmas.Bool.Decides.{nat_tests}
use Rattle.presence_base.specs.declared.dots.Replica.{Replica}
use Rattle.presence_base.specs.declared.dots.Dot.{Dot}
use Rattle.presence_base.specs.declared.row.Row.{Row}
use Rattle.presence_base.specs.Order.{replica_cmp, dot_cmp, same_dot}
use Rattle.dot_context.specs.Runs.{AreRuns, holds, in_run}
use Rattle.orswot_core.specs.Full.{dot_of}
use Rattle.orswot_core.proofs.OrderedFacts.{same_replica_below}
use Rattle.orswot_core.proofs.RunFacts.{any_either_list}
use Rattle.presence_journal.proofs.Same.{replica_total, same_dot-true, same_dot-refl}
use Rattle.presence_journal_cuts.specs.Handing.{run_between}
use Rattle.presence_journal_cuts.specs.Parting.{vacant, rows_above, end_of}

-- rows of a replica, their counts above one, each above the one before
abbrev pub Ascend : Replica → ℕ → List (Dot × Row) → Type 0
Ascend r low [] = Unit {0}
Ascend r low (x ∷ xs) = (x.0.replica ≡ r) × (low < x.0.count) × Ascend r x.0.count xs

-- none goes above a count
abbrev pub Within : ℕ → List (Dot × Row) → Type 0
Within last es = AllByRecursion (λ (x : Dot × Row). x.0.count ≤ last) es

pub lower : (r : Replica) (a b : ℕ) (es : List (Dot × Row)) → a ≤ b → Ascend r b es → Ascend r a es
lower r a b [] le h = tt
lower r a b (x ∷ xs) le h = (h.0, omega (arith, le, h.1), h.2)

-- ---- in order of dot

less_count : (m n : ℕ) → nat_cmp m n ≡ Less → m < n
less_count m n e = go (nat_lt m n) refl e
  where
    at_greater : (c : Bool) → cond c Equal Greater ≡ Less → m < n
    at_greater true f = absurd (cc)
    at_greater false f = absurd (cc)

    go : (b : Bool) → nat_lt m n ≡ b → cond b Less (cond (m == n) Equal Greater) ≡ Less → m < n
    go true p f = ltb-true m n p
    go false p f = at_greater (m == n) f

later_count : (d e : Dot) → d.replica ≡ e.replica → dot_cmp d e ≡ Less → d.count < e.count
later_count d e same less =
    less_count d.count e.count
    (sym (ap (λ o. ordering_then o (nat_cmp d.count e.count)) (tied_itself replica_total e.replica))
    ∙ (sym (ap (λ r. ordering_then (replica_cmp r e.replica) (nat_cmp d.count e.count)) same) ∙ less))

pub ascending : (r : Replica) (low : ℕ) (es : List (Dot × Row)) → AllByRecursion (λ (x : Dot × Row). x.0.replica ≡ r) es → AllByRecursion (λ (x : Dot × Row). low < x.0.count) es → IsStrictlySortedBy dot_cmp (keys_of es) → Ascend r low es
unfolding IsStrictlySortedBy
ascending r low [] of above h = tt
ascending r low (x ∷ xs) of above h = (of.0, above.0, ascending r x.0.count xs of.1 (later xs of.1 h.0) h.1)
  where
    later : (ys : List (Dot × Row)) → AllByRecursion (λ (y : Dot × Row). y.0.replica ≡ r) ys → AllByRecursion (λ y. dot_cmp x.0 y ≡ Less) (keys_of ys) → AllByRecursion (λ (y : Dot × Row). x.0.count < y.0.count) ys
    later [] p q = tt
    later (y ∷ ys) p q = (later_count x.0 y.0 (of.0 ∙ sym p.0) q.0, later ys p.1 q.1)

pub in_order : (r : Replica) (low : ℕ) (es : List (Dot × Row)) → Ascend r low es → IsStrictlySortedBy dot_cmp (keys_of es)
unfolding IsStrictlySortedBy
in_order r low [] h = tt
in_order r low (x ∷ xs) h = (before x.0 x.0.count h.0 (omega arith) xs h.2, in_order r x.0.count xs h.2)
  where
    before : (d : Dot) (c : ℕ) → d.replica ≡ r → d.count ≤ c → (ys : List (Dot × Row)) → Ascend r c ys → AllByRecursion (λ y. dot_cmp d y ≡ Less) (keys_of ys)
    before d c same le [] k = tt
    before d c same le (y ∷ ys) k = (same_replica_below d y.0 (same ∙ sym k.0) (omega (arith, le, k.1)), before d y.0.count same (omega (arith, le, k.1)) ys k.2)

-- ---- look-ups

-- other counts, other dots
differs : (d e : Dot) → (d.count ≡ e.count → ⊥) → same_dot d e ≡ false
differs d e other = go (same_dot d e) refl
  where
    go : (b : Bool) → same_dot d e ≡ b → same_dot d e ≡ false
    go true p = absurd (other (ap (λ (x : Dot). x.count) (same_dot-true d e p)))
    go false p = p

agrees : (d e : Dot) → d.replica ≡ e.replica → d.count ≡ e.count → same_dot d e ≡ true
agrees d e p q = ap (λ x. same_dot x e) (λ i. record { replica = p i; count = q i }) ∙ same_dot-refl e

past : (d : Dot) (x : Dot × Row) (xs : List (Dot × Row)) → (d.count ≡ x.0.count → ⊥) → lookup (same_dot d) (x ∷ xs) ≡ lookup (same_dot d) xs
past d x xs other = ap (λ b. cond b (Some x.1) (lookup (same_dot d) xs)) (differs d x.0 other)

here : (d : Dot) (x : Dot × Row) (xs : List (Dot × Row)) → d.replica ≡ x.0.replica → d.count ≡ x.0.count → lookup (same_dot d) (x ∷ xs) ≡ Some x.1
here d x xs p q = ap (λ b. cond b (Some x.1) (lookup (same_dot d) xs)) (agrees d x.0 p q)

absent : (r : Replica) (low : ℕ) (d : Dot) (es : List (Dot × Row)) → Ascend r low es → d.count ≤ low → lookup (same_dot d) es ≡ None
absent r low d [] h le = refl
absent r low d (x ∷ xs) h le = past d x xs (λ e. omega (arith, h.1, le, e)) ∙ absent r x.0.count d xs h.2 (omega (arith, h.1, le))

-- ---- the runs between

between : (low high c : ℕ) → holds (run_between low high) c ≡ (nat_lt low c && nat_le c high)
between low high c = grind (arith, nat_tests)

-- whether a count lies above one, up to another, and no row has it
abbrev IsFree : ℕ → ℕ → Option Row → ℕ → Bool
IsFree low to o c = nat_lt low c && (nat_le c to && is_none o)

free_before : (low to k c : ℕ) (o : Option Row) → c < k → k ≤ to → o ≡ None → ((nat_lt low c && nat_le c (k - 1)) || (nat_lt k c && (nat_le c to && is_none o))) ≡ IsFree low to o c
free_before low to k c o lt le e = rw e (grind (arith, nat_tests))

free_at : (low to k c : ℕ) (o p : Option Row) (r : Row) → c ≡ k → 0 < k → p ≡ Some r → ((nat_lt low c && nat_le c (k - 1)) || (nat_lt k c && (nat_le c to && is_none o))) ≡ IsFree low to p c
free_at low to k c o p r at pos e = rw e (grind (arith, nat_tests))

free_behind : (low to k c : ℕ) (o : Option Row) → k < c → low < k → ((nat_lt low c && nat_le c (k - 1)) || (nat_lt k c && (nat_le c to && is_none o))) ≡ IsFree low to o c
free_behind low to k c o lt below = grind (arith, nat_tests)

pub holds_vacant : (r : Replica) (to low : ℕ) (es : List (Dot × Row)) → Ascend r low es → (c : ℕ) → holds (vacant to low es) c ≡ IsFree low to (lookup (same_dot (dot_of r c)) es) c
holds_vacant r to low [] h c = between low to c ∙ whole (nat_lt low c) (nat_le c to)
  where
    whole : (a b : Bool) → (a && b) ≡ (a && (b && true))
    whole true true = refl
    whole true false = refl
    whole false b = refl
holds_vacant r to low (x ∷ xs) h c = go (holds_vacant r to x.0.count xs h.2 c) (λ k. holds_vacant r to low xs k c) (nat_le x.0.count to) refl
  where
    k : ℕ
    k = x.0.count

    d : Dot
    d = dot_of r c

    found : Option Row
    found = lookup (same_dot d) xs

    split : holds (vacant to k xs) c ≡ IsFree k to found c → holds (run_between low (k - 1) ++ vacant to k xs) c ≡ ((nat_lt low c && nat_le c (k - 1)) || IsFree k to found c)
    split rest = any_either_list (λ q. in_run q c) (run_between low (k - 1)) (vacant to k xs) ∙ (λ i. between low (k - 1) c i || rest i)

    at : (c < k) ⊎ (k ≤ c) → (k < c) ⊎ (c ≤ k) → k ≤ to → ((nat_lt low c && nat_le c (k - 1)) || IsFree k to found c) ≡ IsFree low to (lookup (same_dot d) (x ∷ xs)) c
    at (inl lt) other le = free_before low to k c found lt le (absent r k d xs h.2 (omega (arith, lt))) ∙ ap (λ o. IsFree low to o c) (sym (past d x xs (λ e. omega (arith, lt, e))))
    at (inr ge) (inl gt) le = free_behind low to k c found gt h.1 ∙ ap (λ o. IsFree low to o c) (sym (past d x xs (λ e. omega (arith, gt, e))))
    at (inr ge) (inr le') le = free_at low to k c found (lookup (same_dot d) (x ∷ xs)) x.1 (omega (arith, ge, le')) (omega (arith, h.1)) (here d x xs (sym h.0) (omega (arith, ge, le')))

    beyond : (k ≤ to → ⊥) → (c < k) ⊎ (k ≤ c) → IsFree low to found c ≡ IsFree low to (lookup (same_dot d) (x ∷ xs)) c
    beyond above (inl lt) = ap (λ o. IsFree low to o c) (sym (past d x xs (λ e. omega (arith, lt, e))))
    beyond above (inr ge) = none (nat_lt low c) (nat_le c to) (is_none found) (is_none (lookup (same_dot d) (x ∷ xs))) (over (nat_le c to) refl)
      where
        over : (b : Bool) → nat_le c to ≡ b → nat_le c to ≡ false
        over true e = absurd (above (omega (arith, ge, leb-true c to e)))
        over false e = e

        none : (a b p q : Bool) → b ≡ false → (a && (b && p)) ≡ (a && (b && q))
        none a b p q e = ap (λ v. a && (v && p)) e ∙ sym (ap (λ v. a && (v && q)) e)

    go : holds (vacant to k xs) c ≡ IsFree k to found c → (Ascend r low xs → holds (vacant to low xs) c ≡ IsFree low to found c) → (b : Bool) → nat_le k to ≡ b
        → holds (cond b (run_between low (k - 1) ++ vacant to k xs) (vacant to low xs)) c ≡ IsFree low to (lookup (same_dot d) (x ∷ xs)) c
    go rest other true p = split rest ∙ at (cases_lt c k) (cases_lt k c) (leb-true k to p)
    go rest other false p = other (lower r low k xs (omega (arith, h.1)) h.2) ∙ beyond (λ le. both_ways (nat_le k to) p (le-leb k to le)) (cases_lt c k)

-- they are longest runs
pub runs_from : (a b : ℕ) (rs : List (ℕ × ℕ)) → a ≤ b → AreRuns b rs → AreRuns a rs
runs_from a b [] le h = tt
runs_from a b (x ∷ xs) le h = (omega (arith, le, h.0), h.1, h.2)

runs_joined : (low k : ℕ) (rs : List (ℕ × ℕ)) → low < k → AreRuns k rs → AreRuns low (run_between low (k - 1) ++ rs)
runs_joined low k rs lt h = go (nat_lt low (k - 1)) refl
  where
    go : (b : Bool) → nat_lt low (k - 1) ≡ b → AreRuns low (cond b ((low, k - 1) ∷ []) [] ++ rs)
    go true p = (omega arith, ltb-true low (k - 1) p, subst (λ n. AreRuns n rs) (omega (arith, lt)) h)
    go false p = runs_from low k rs (omega (arith, lt)) h

pub runs_vacant : (r : Replica) (to low : ℕ) (es : List (Dot × Row)) → Ascend r low es → AreRuns low (vacant to low es)
runs_vacant r to low [] h = go (nat_lt low to) refl
  where
    go : (b : Bool) → nat_lt low to ≡ b → AreRuns low (cond b ((low, to) ∷ []) [])
    go true p = (omega arith, ltb-true low to p, tt)
    go false p = tt
runs_vacant r to low (x ∷ xs) h = go (runs_vacant r to x.0.count xs h.2) (runs_vacant r to low xs (lower r low x.0.count xs (omega (arith, h.1)) h.2)) (nat_le x.0.count to)
  where
    go : AreRuns x.0.count (vacant to x.0.count xs) → AreRuns low (vacant to low xs) → (b : Bool) → AreRuns low (cond b (run_between low (x.0.count - 1) ++ vacant to x.0.count xs) (vacant to low xs))
    go rest other true = runs_joined low x.0.count (vacant to x.0.count xs) h.1 rest
    go rest other false = other

-- and none ends above the count
pub all_append : (p : ℕ × ℕ → Bool) (xs ys : List (ℕ × ℕ)) → list_all p xs ≡ true → list_all p ys ≡ true → list_all p (xs ++ ys) ≡ true
all_append p [] ys h k = k
all_append p (x ∷ xs) ys h k = go (λ e. all_append p xs ys e k) (p x) h
  where
    go : (list_all p xs ≡ true → list_all p (xs ++ ys) ≡ true) → (b : Bool) → (b && list_all p xs) ≡ true → (b && list_all p (xs ++ ys)) ≡ true
    go rest true e = rest e
    go rest false e = absurd (cc)

ends_between : (low high to : ℕ) → high ≤ to → list_all (λ (r : ℕ × ℕ). nat_le r.1 to) (run_between low high) ≡ true
ends_between low high to le = go (nat_lt low high)
  where
    go : (b : Bool) → list_all (λ (r : ℕ × ℕ). nat_le r.1 to) (cond b ((low, high) ∷ []) []) ≡ true
    go true = ap (λ v. v && true) (le-leb high to le)
    go false = refl

pub ends_vacant : (to low : ℕ) (es : List (Dot × Row)) → list_all (λ (r : ℕ × ℕ). nat_le r.1 to) (vacant to low es) ≡ true
ends_vacant to low [] = ends_between low to to (omega arith)
ends_vacant to low (x ∷ xs) = go (ends_vacant to x.0.count xs) (ends_vacant to low xs) (nat_le x.0.count to) refl
  where
    go : list_all (λ (r : ℕ × ℕ). nat_le r.1 to) (vacant to x.0.count xs) ≡ true → list_all (λ (r : ℕ × ℕ). nat_le r.1 to) (vacant to low xs) ≡ true → (b : Bool) → nat_le x.0.count to ≡ b
        → list_all (λ (r : ℕ × ℕ). nat_le r.1 to) (cond b (run_between low (x.0.count - 1) ++ vacant to x.0.count xs) (vacant to low xs)) ≡ true
    go rest other true p =
        all_append (λ (r : ℕ × ℕ). nat_le r.1 to) (run_between low (x.0.count - 1)) (vacant to x.0.count xs)
        (ends_between low (x.0.count - 1) to (omega (arith, leb-true x.0.count to p))) rest
    go rest other false p = other

-- ---- the rows above a count

-- where it ends
pub end_above : (r : Replica) (from last room low : ℕ) (es : List (Dot × Row)) → Ascend r low es → Within last es → low ≤ last → low ≤ end_of from last room es
end_above r from last room low [] h w le = le
end_above r from last room low (x ∷ xs) h w le = go (λ k. end_above r from last k x.0.count xs h.2 w.1 w.0) (nat_le x.0.count from) (nat_eq room 0)
  where
    go : ((k : ℕ) → x.0.count ≤ end_of from last k xs) → (b c : Bool) → low ≤ cond b (end_of from last room xs) (cond c (x.0.count - 1) (end_of from last (room - 1) xs))
    go rest true c = omega (arith, h.1, rest room)
    go rest false true = omega (arith, h.1)
    go rest false false = omega (arith, h.1, rest (room - 1))

pub end_from : (from last room : ℕ) (es : List (Dot × Row)) → from ≤ last → from ≤ end_of from last room es
end_from from last room [] le = le
end_from from last room (x ∷ xs) le = go (λ k. end_from from last k xs le) (nat_le x.0.count from) refl (nat_eq room 0)
  where
    go : ((k : ℕ) → from ≤ end_of from last k xs) → (b : Bool) → nat_le x.0.count from ≡ b → (c : Bool) → from ≤ cond b (end_of from last room xs) (cond c (x.0.count - 1) (end_of from last (room - 1) xs))
    go rest true p c = rest room
    go rest false p true = omega (arith, leb-false x.0.count from p)
    go rest false p false = rest (room - 1)

pub end_within : (from last room : ℕ) (es : List (Dot × Row)) → Within last es → end_of from last room es ≤ last
end_within from last room [] w = omega arith
end_within from last room (x ∷ xs) w = go (λ k. end_within from last k xs w.1) (nat_le x.0.count from) (nat_eq room 0)
  where
    go : ((k : ℕ) → end_of from last k xs ≤ last) → (b c : Bool) → cond b (end_of from last room xs) (cond c (x.0.count - 1) (end_of from last (room - 1) xs)) ≤ last
    go rest true c = rest room
    go rest false true = omega (arith, w.0)
    go rest false false = rest (room - 1)

pub rows_ascend : (r : Replica) (from room low : ℕ) (es : List (Dot × Row)) → Ascend r low es → Ascend r low (rows_above from room es)
rows_ascend r from room low [] h = tt
rows_ascend r from room low (x ∷ xs) h = go (λ k. rows_ascend r from k x.0.count xs h.2) (nat_le x.0.count from) (nat_eq room 0)
  where
    go : ((k : ℕ) → Ascend r x.0.count (rows_above from k xs)) → (b c : Bool) → Ascend r low (cond b (rows_above from room xs) (cond c [] (x ∷ rows_above from (room - 1) xs)))
    go rest true c = lower r low x.0.count (rows_above from room xs) (omega (arith, h.1)) (rest room)
    go rest false true = tt
    go rest false false = (h.0, h.1, rest (room - 1))

abbrev Told : ℕ → ℕ → Dot → Bool
Told from end d = nat_lt from d.count && nat_le d.count end

pub rows_found : (r : Replica) (from last room low : ℕ) (es : List (Dot × Row)) → Ascend r low es → Within last es → (d : Dot)
    → lookup (same_dot d) (rows_above from room es) ≡ cond (Told from (end_of from last room es) d) (lookup (same_dot d) es) None
rows_found r from last room low [] h w d = nothing (Told from last d) None refl
  where
    nothing : (b : Bool) (o : Option Row) → o ≡ None → o ≡ cond b o None
    nothing true o e = refl
    nothing false o e = e
rows_found r from last room low (x ∷ xs) h w d = go (λ k. rows_found r from last k x.0.count xs h.2 w.1 d) (nat_le x.0.count from) refl (nat_eq room 0)
  where
    all : Option Row
    all = lookup (same_dot d) (x ∷ xs)

    rest : Option Row
    rest = lookup (same_dot d) xs

    -- a row at or below `from` is none of those told
    skipped : (end : ℕ) → x.0.count ≤ from → cond (Told from end d) rest None ≡ cond (Told from end d) all None
    skipped end le = at (cases_lt from d.count)
      where
        at : (from < d.count) ⊎ (d.count ≤ from) → cond (Told from end d) rest None ≡ cond (Told from end d) all None
        at (inl lt) = ap (λ o. cond (Told from end d) o None) (sym (past d x xs (λ e. omega (arith, lt, le, e))))
        at (inr ge) = off (nat_lt from d.count) (nat_le d.count end) (low_off (nat_lt from d.count) refl)
          where
            low_off : (b : Bool) → nat_lt from d.count ≡ b → b ≡ false
            low_off true e = absurd (omega (arith, ge, ltb-true from d.count e))
            low_off false e = refl

            off : (a b : Bool) → a ≡ false → cond (a && b) rest None ≡ cond (a && b) all None
            off true b e = absurd (cc)
            off false b e = refl

    -- where there is no room, what is told ends below the next row
    ended : (b : Bool) → Told from (x.0.count - 1) d ≡ b → None ≡ cond b all None
    ended false e = refl
    ended true e = sym (absent r (x.0.count - 1) d (x ∷ xs) (h.0, omega (arith, h.1), h.2) (upper (nat_lt from d.count) (nat_le d.count (x.0.count - 1)) refl e))
      where
        upper : (a b : Bool) → nat_le d.count (x.0.count - 1) ≡ b → (a && b) ≡ true → d.count ≤ x.0.count - 1
        upper true true p q = leb-true d.count (x.0.count - 1) p
        upper true false p q = absurd (cc)
        upper false b p q = absurd (cc)

    -- a row that is told
    taken : (end : ℕ) → from < x.0.count → x.0.count ≤ end → (b : Bool) → same_dot d x.0 ≡ b → cond b (Some x.1) (cond (Told from end d) rest None) ≡ cond (Told from end d) (cond b (Some x.1) rest) None
    taken end lt le false e = refl
    taken end lt le true e = sym (ap (λ v. cond v (Some x.1) None) in_it)
      where
        same : d.count ≡ x.0.count
        same = ap (λ (q : Dot). q.count) (same_dot-true d x.0 e)

        in_it : Told from end d ≡ true
        in_it = grind (arith, nat_tests, same, lt, le)

    go : ((k : ℕ) → lookup (same_dot d) (rows_above from k xs) ≡ cond (Told from (end_of from last k xs) d) rest None) → (b : Bool) → nat_le x.0.count from ≡ b → (c : Bool)
        → lookup (same_dot d) (cond b (rows_above from room xs) (cond c [] (x ∷ rows_above from (room - 1) xs))) ≡ cond (Told from (cond b (end_of from last room xs) (cond c (x.0.count - 1) (end_of from last (room - 1) xs))) d) all None
    go found true p c = found room ∙ skipped (end_of from last room xs) (leb-true x.0.count from p)
    go found false p true = ended (Told from (x.0.count - 1) d) refl
    go found false p false =
        ap (λ o. cond (same_dot d x.0) (Some x.1) o) (found (room - 1))
        ∙ taken (end_of from last (room - 1) xs) (omega (arith, leb-false x.0.count from p)) (end_above r from last (room - 1) x.0.count xs h.2 w.1 w.0) (same_dot d x.0) refl

-- no more than there is room for
pub few_rows : (from room : ℕ) (es : List (Dot × Row)) → length (rows_above from room es) ≤ room
few_rows from room [] = omega arith
few_rows from room (x ∷ xs) = go (λ k. few_rows from k xs) (nat_le x.0.count from) (nat_eq room 0) refl
  where
    go : ((k : ℕ) → length (rows_above from k xs) ≤ k) → (b c : Bool) → nat_eq room 0 ≡ c → length (cond b (rows_above from room xs) (cond c [] (x ∷ rows_above from (room - 1) xs))) ≤ room
    go rest true c q = rest room
    go rest false true q = omega arith
    go rest false false q = one_more (length (rows_above from (room - 1) xs)) (rest (room - 1))
      where
        one_more : (k : ℕ) → k ≤ room - 1 → suc k ≤ room
        one_more k le = grind (arith, nat_tests, le, q)

-- it ends with the last count, or the next one has a row, and there is no room for it
abbrev Far : Replica → ℕ → ℕ → ℕ → List (Dot × Row) → Type 0
Far r from last room es =
    (end_of from last room es ≡ last) ⊎ (IsSome (lookup (same_dot (dot_of r (suc (end_of from last room es)))) es) × (length (rows_above from room es) ≡ room))

pub goes_far : (r : Replica) (from last room low : ℕ) (es : List (Dot × Row)) → Ascend r low es → Within last es → from ≤ last → Far r from last room es
goes_far r from last room low [] h w le = inl refl
goes_far r from last room low (x ∷ xs) h w le = go (λ k. goes_far r from last k x.0.count xs h.2 w.1 le) (nat_le x.0.count from) refl (nat_eq room 0) refl
  where
    found : (end : ℕ) → x.0.count ≤ end → IsSome (lookup (same_dot (dot_of r (suc end))) xs) → IsSome (lookup (same_dot (dot_of r (suc end))) (x ∷ xs))
    found end above f = subst IsSome (sym (past (dot_of r (suc end)) x xs (λ e. omega (arith, above, e)))) f

    go : ((k : ℕ) → Far r from last k xs) → (b : Bool) → nat_le x.0.count from ≡ b → (c : Bool) → nat_eq room 0 ≡ c
        → (cond b (end_of from last room xs) (cond c (x.0.count - 1) (end_of from last (room - 1) xs)) ≡ last)
        ⊎ (IsSome (lookup (same_dot (dot_of r (suc (cond b (end_of from last room xs) (cond c (x.0.count - 1) (end_of from last (room - 1) xs)))))) (x ∷ xs))
        × (length (cond b (rows_above from room xs) (cond c [] (x ∷ rows_above from (room - 1) xs))) ≡ room))
    go rest true p c q = pick (rest room)
      where
        pick : Far r from last room xs → (end_of from last room xs ≡ last) ⊎ (IsSome (lookup (same_dot (dot_of r (suc (end_of from last room xs)))) (x ∷ xs)) × (length (rows_above from room xs) ≡ room))
        pick (inl e) = inl e
        pick (inr f) = inr (found (end_of from last room xs) (end_above r from last room x.0.count xs h.2 w.1 w.0) f.0, f.1)
    go rest false p true q = inr (
      subst IsSome (sym (here (dot_of r (suc (x.0.count - 1))) x xs (sym h.0) (omega (arith, h.1)))) refl,
      omega (arith, eqb-true room 0 q),
    )
    go rest false p false q = pick (rest (room - 1))
      where
        one_more : (k : ℕ) → k ≡ room - 1 → suc k ≡ room
        one_more k e = grind (arith, nat_tests, e, q)

        pick : Far r from last (room - 1) xs
            → (end_of from last (room - 1) xs ≡ last) ⊎ (IsSome (lookup (same_dot (dot_of r (suc (end_of from last (room - 1) xs)))) (x ∷ xs)) × (length (x ∷ rows_above from (room - 1) xs) ≡ room))
        pick (inl e) = inl e
        pick (inr f) = inr (found (end_of from last (room - 1) xs) (end_above r from last (room - 1) x.0.count xs h.2 w.1 w.0) f.0, one_more (length (rows_above from (room - 1) xs)) f.1)
