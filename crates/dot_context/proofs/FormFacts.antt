-- Equal sets have equal forms.
use Rattle.std.proofs.Common.{◌≡◌, ℕ, ◌<◌, ◌≤◌, suc, Bool, T, true, false, cond, ◌&&◌, ltb, List, [], ◌∷◌, length, arith, refl, sym, ◌∙◌, ap, inl, inr, true≢false, Option, Some, None, subst}
use Rattle.std.proofs.lemmas.Bool.{cases_lt}
use Rattle.std.proofs.lemmas.Bool.Decides.{nat_tests}
use Rattle.std.specs.List.{All, AllByRecursion}
use Rattle.std.specs.List.Sorted.{IsStrictlySortedBy}
use Rattle.std.proofs.lemmas.List.Elements.{All-head, All-tail}
use Rattle.std.specs.Ordering.{is_lt}
use Rattle.std.specs.declared.cmp.Ordering.TheVariants.{Less}
use Rattle.std.specs.FinSet as set
use Rattle.std.specs.FinMap.Entries.{find, is_sorted, below_all, same_entries}
use Rattle.std.specs.Map.{lookup, keys_of}
use Rattle.std.specs.BTreeMap.{get}
use Rattle.presence_base.specs.declared.dots.Replica.{Replica}
use Rattle.presence_base.specs.declared.dots.Dot.{Dot}
use Rattle.presence_base.specs.Order.{replica_cmp, same_replica}
use Rattle.dot_context.specs.Runs.{holds, AreRuns, top_count, above_top}
use Rattle.dot_context.specs.Sets.{DotSet, RunsOf, listed, HasSome, IsCompact}
use Rattle.dot_context.specs.Forms.{Form, vector_of, cloud_of, HasOneForm}
use Rattle.dot_context.proofs.SetFacts.{replica_total, replica_antisymmetric, contains-set_of}

none_below : (low n : ℕ) (rs : List (ℕ × ℕ)) → AreRuns low rs → n ≤ low → holds rs n ≡ false
none_below low n [] h le = refl
none_below low n (r ∷ rs) h le = grind (arith, nat_tests, none_below (suc r.1) n rs h.2)

starts_at : (y : ℕ × ℕ) (ys : List (ℕ × ℕ)) (low : ℕ) → AreRuns low (y ∷ ys) → AreRuns y.0 (y ∷ ys)
starts_at y ys low h = (omega arith, h.1, h.2)

pub held_within : (x : ℕ × ℕ) (xs : List (ℕ × ℕ)) (n : ℕ) → x.0 < n → n ≤ x.1 → holds (x ∷ xs) n ≡ true
held_within x xs n lt le = grind (arith, nat_tests)

pub held_past : (x : ℕ × ℕ) (xs : List (ℕ × ℕ)) (n : ℕ) → x.1 < n → holds (x ∷ xs) n ≡ holds xs n
held_past x xs n lt = grind (arith, nat_tests)

not_before : (x y : ℕ × ℕ) (xs ys : List (ℕ × ℕ)) (low low' : ℕ) → AreRuns low (x ∷ xs) → AreRuns low' (y ∷ ys) → ((n : ℕ) → holds (x ∷ xs) n ≡ holds (y ∷ ys) n) → y.0 ≤ x.0
not_before x y xs ys low low' h h' e = elim (cases_lt x.0 y.0) [
  | inl a ↦ absurd (true≢false (sym (held_within x xs (suc x.0) (omega arith) (omega (arith, h.1))) ∙ e (suc x.0) ∙ none_below y.0 (suc x.0) (y ∷ ys) (starts_at y ys low' h') (omega arith)))
  | inr a ↦ a
]

not_longer : (x y : ℕ × ℕ) (xs ys : List (ℕ × ℕ)) → x.0 ≡ y.0 → AreRuns (suc x.1) xs → x.0 < x.1 → ((n : ℕ) → holds (x ∷ xs) n ≡ holds (y ∷ ys) n) → y.1 ≤ x.1
not_longer x y xs ys same h lt e = elim (cases_lt x.1 y.1) [
  | inl a ↦ absurd (true≢false (sym (held_within y ys (suc x.1) (omega arith) (omega arith)) ∙ sym (e (suc x.1)) ∙ held_past x xs (suc x.1) (omega arith) ∙ none_below (suc x.1) (suc x.1) xs h (omega arith)))
  | inr a ↦ a
]

same_cons : (x y : ℕ × ℕ) (xs ys : List (ℕ × ℕ)) → x.0 ≡ y.0 → x.1 ≡ y.1 → xs ≡ ys → x ∷ xs ≡ y ∷ ys
same_cons x y xs ys e e' e'' = λ i. (e i, e' i) ∷ e'' i

-- two lists of longest runs that hold the same counts are equal
pub same_runs : (xs ys : List (ℕ × ℕ)) (low low' : ℕ) → AreRuns low xs → AreRuns low' ys → ((n : ℕ) → holds xs n ≡ holds ys n) → xs ≡ ys
same_runs [] [] low low' h h' e = refl
same_runs [] (y ∷ ys) low low' h h' e = absurd (true≢false (sym (held_within y ys y.1 h'.1 (omega arith)) ∙ sym (e y.1)))
same_runs (x ∷ xs) [] low low' h h' e = absurd (true≢false (sym (held_within x xs x.1 h.1 (omega arith)) ∙ e x.1))
same_runs (x ∷ xs) (y ∷ ys) low low' h h' e =
    let e' : (n : ℕ) → holds (y ∷ ys) n ≡ holds (x ∷ xs) n = λ n. sym (e n) in
    let from : x.0 ≡ y.0 = omega (arith, not_before x y xs ys low low' h h' e, not_before y x ys xs low' low h' h e') in
    let from' : y.0 ≡ x.0 = omega arith in
    let to : x.1 ≡ y.1 = omega (arith, not_longer x y xs ys from h.2 h.1 e, not_longer y x ys xs from' h'.2 h'.1 e') in
    let rest : (n : ℕ) → holds xs n ≡ holds ys n = λ n. elim (cases_lt x.1 n) [
      | inl a ↦ sym (held_past x xs n a) ∙ e n ∙ held_past y ys n (omega arith)
      | inr a ↦ none_below (suc x.1) n xs h.2 (omega arith) ∙ sym (none_below (suc y.1) n ys h'.2 (omega arith))
    ] in
    same_cons x y xs ys from to (same_runs xs ys (suc x.1) (suc y.1) h.2 h'.2 rest)

-- the entries of compact runs are a form
pub runs_formed : (m : RunsOf) → IsCompact m → All (λ e. get replica_cmp m e.0 ≡ Some e.1) m.entries → All (λ e. AreRuns 0 e.1 × (0 < length e.1)) m.entries
runs_formed m compact found = λ k d lt. (subst (λ o. AreRuns 0 (listed o)) (found k d lt) (compact.runs _), subst HasSome (found k d lt) (compact.some _))

-- what a look-up finds in a form
abbrev IsLongest : Option (List (ℕ × ℕ)) → Type 0
IsLongest o = AreRuns 0 (listed o) × HasSome o

found_longest : (f : Form) (q : Replica) → All (λ e. AreRuns 0 e.1 × (0 < length e.1)) f → IsLongest (lookup (same_replica q) f)
found_longest [] q all = (tt, tt)
found_longest (e ∷ es) q all = go (same_replica q e.0)
    (All-head (λ (e : Replica × List (ℕ × ℕ)). AreRuns 0 e.1 × (0 < length e.1)) e es all)
    (found_longest es q (All-tail (λ (e : Replica × List (ℕ × ℕ)). AreRuns 0 e.1 × (0 < length e.1)) e es all))
  where
    go : (b : Bool) → AreRuns 0 e.1 × (0 < length e.1) → IsLongest (lookup (same_replica q) es) → IsLongest (cond b (Some e.1) (lookup (same_replica q) es))
    go true here rest = here
    go false here rest = rest

same_found : (o p : Option (List (ℕ × ℕ))) → HasSome o → HasSome p → listed o ≡ listed p → o ≡ p
same_found None None h h' e = refl
same_found None (Some rs) h h' e = absurd (omega (arith, h', ap length e))
same_found (Some rs) None h h' e = absurd (omega (arith, h, ap length e))
same_found (Some rs) (Some ss) h h' e = ap (λ s. Some s) e

find_is : (f : Form) (q : Replica) → find replica_cmp q f ≡ lookup (same_replica q) f
find_is [] q = refl
find_is (e ∷ es) q = ap (cond (same_replica q e.0) (Some e.1)) (find_is es q)

all_below : (r : Replica) (f : Form) → AllByRecursion (λ q. replica_cmp r q ≡ Less) (keys_of f) → below_all replica_cmp r f ≡ true
all_below r [] h = refl
all_below r (e ∷ es) h = ap (λ o. is_lt o && below_all replica_cmp r es) h.0 ∙ all_below r es h.1

sorted_test : (f : Form) → IsStrictlySortedBy replica_cmp (keys_of f) → is_sorted replica_cmp f ≡ true
unfolding IsStrictlySortedBy
sorted_test [] h = refl
sorted_test (e ∷ es) h = ap (λ b. b && is_sorted replica_cmp es) (all_below e.0 es h.0) ∙ sorted_test es h.1

passes : (b : Bool) → b ≡ true → T b
passes true e = tt
passes false e = absurd (cc)

pub only_form : (s : DotSet) → HasOneForm s
only_form s f g a b = same_entries replica_cmp replica_total replica_antisymmetric f g (passes _ (sorted_test f a.replicas)) (passes _ (sorted_test g b.replicas)) (λ q.
    let here = found_longest f q a.runs in
    let there = found_longest g q b.runs in
    let alike : (n : ℕ) → holds (listed (lookup (same_replica q) f)) n ≡ holds (listed (lookup (same_replica q) g)) n = λ n.
    let d : Dot = record { replica = q; count = n } in
    sym (contains-set_of f d) ∙ ap (λ t. set.contains t d) (a.dots ∙ sym b.dots) ∙ contains-set_of g d in
    find_is f q
    ∙ same_found (lookup (same_replica q) f) (lookup (same_replica q) g) here.1 there.1 (same_runs (listed (lookup (same_replica q) f)) (listed (lookup (same_replica q) g)) 0 0 here.0 there.0 alike)
    ∙ sym (find_is g q))

-- the views
pub vector_first : (e : Replica × List (ℕ × ℕ)) (es : Form) → 0 < top_count e.1 → vector_of (e ∷ es) ≡ (e.0, top_count e.1) ∷ vector_of es
vector_first e es some = grind (arith, nat_tests)

pub vector_skip : (e : Replica × List (ℕ × ℕ)) (es : Form) → top_count e.1 ≤ 0 → vector_of (e ∷ es) ≡ vector_of es
vector_skip e es none = grind (arith, nat_tests)

pub cloud_first : (e : Replica × List (ℕ × ℕ)) (es : Form) → ltb 0 (length (above_top e.1)) ≡ true → cloud_of (e ∷ es) ≡ (e.0, above_top e.1) ∷ cloud_of es
cloud_first e es some = ap (λ b. cond b ((e.0, above_top e.1) ∷ cloud_of es) (cloud_of es)) some

pub cloud_skip : (e : Replica × List (ℕ × ℕ)) (es : Form) → ltb 0 (length (above_top e.1)) ≡ false → cloud_of (e ∷ es) ≡ cloud_of es
cloud_skip e es none = ap (λ b. cond b ((e.0, above_top e.1) ∷ cloud_of es) (cloud_of es)) none
