-- Which dots lose their rows to what is told.
use Rattle.std.proofs.Common.{◌≡◌, ℕ, Bool, true, false, not, cond, ◌&&◌, ◌||◌, ◌==◌, nat_lt, nat_le, List, [], ◌∷◌, ◌++◌, refl, sym, ◌∙◌, ap, Option, Some, None, is_some, arith, Ordering, true≢false, ◌≤◌, length, drop}
use Rattle.std.proofs.lemmas.Bool.Decides.{nat_tests}
use Rattle.std.proofs.lemmas.List.{drop_all}
use Rattle.std.specs.List.{filter, list_any}
use Rattle.std.specs.Ordering.{is_eq, is_lt, is_gt, nat_cmp, ordering_then}
use Rattle.std.specs.declared.cmp.Ordering.TheVariants.{Less, Equal, Greater}
use Rattle.std.specs.declared.ops.Bound.TheVariants.{Included, Excluded}
use Rattle.std.specs.BTreeMap.{get}
use Rattle.std.specs.BTreeMap.Range.{range_contains}
use Rattle.std.specs.Map.{lookup, keys_of}
use Rattle.std.proofs.lemmas.Map.Entries.{lookup-filter-keys}
use Rattle.std.proofs.lemmas.Map.Made.{is_some-lookup}
use Rattle.std.specs.Cmp.{eq_by_cmp_equiv, tied_itself}
use Rattle.presence_base.specs.declared.dots.Dot.{Dot}
use Rattle.presence_base.specs.declared.dots.Replica.{Replica}
use Rattle.presence_base.specs.declared.row.Row.{Row}
use Rattle.presence_base.specs.Order.{dot_cmp, replica_cmp, same_dot}
use Rattle.orswot_core.specs.Telling.{Range, range_has}
use Rattle.orswot_core.specs.Sets.{Rows, is_left}
use Rattle.orswot_core.specs.Steps.{left_at}
use Rattle.orswot_core.specs.Checks.{is_forward, dots_of}
use Rattle.orswot_core.proofs.OrderFacts.{dots_equal, replica_total}

any_push : (p : Dot → Bool) (xs : List Dot) (d : Dot) → list_any p (xs ++ d ∷ []) ≡ (list_any p xs || p d)
any_push p [] d = or_none (p d)
  where
    or_none : (a : Bool) → (a || false) ≡ a
    or_none true = refl
    or_none false = refl
any_push p (x ∷ xs) d = ap (λ b. p x || b) (any_push p xs d) ∙ groups (p x) (list_any p xs) (p d)
  where
    groups : (a b c : Bool) → (a || (b || c)) ≡ ((a || b) || c)
    groups true b c = refl
    groups false b c = refl

same_if : (b same : Bool) → (same ≡ true → b ≡ true) → same ≡ (b && same)
same_if true same f = refl
same_if false true f = sym (f refl)
same_if false false f = refl

-- a dot that is wanted is gathered
pub gathered : (p : Dot → Bool) (g g' : List Dot) (d : Dot) (q : Dot) → p d ≡ true → g' ≡ g ++ d ∷ []
    → list_any (same_dot q) g' ≡ (list_any (same_dot q) g || (p q && same_dot q d))
gathered p g g' d q wanted e =
    ap (list_any (same_dot q)) e ∙ any_push (same_dot q) g d
    ∙ ap (λ b. list_any (same_dot q) g || b) (same_if (p q) (same_dot q d) (λ same. ap p (dots_equal q d same) ∙ wanted))

-- another is passed over
pub passed_over : (p : Dot → Bool) (g : List Dot) (d : Dot) (q : Dot) → p d ≡ false
    → list_any (same_dot q) g ≡ (list_any (same_dot q) g || (p q && same_dot q d))
passed_over p g d q stays = other (list_any (same_dot q) g) (p q) (same_dot q d) (λ same. ap p (dots_equal q d same) ∙ stays)
  where
    other : (g b same : Bool) → (same ≡ true → b ≡ false) → g ≡ (g || (b && same))
    other true b same f = refl
    other false true true f = absurd (true≢false (f refl))
    other false true false f = refl
    other false false same f = refl

-- one of several is done
pub next_gathered : (p : Dot → Bool) (g g' : List Dot) (d : Dot) (xs rest : List Dot) (q : Dot) → xs ≡ d ∷ rest
    → list_any (same_dot q) g' ≡ (list_any (same_dot q) g || (p q && same_dot q d))
    → (list_any (same_dot q) g' || (p q && list_any (same_dot q) rest)) ≡ (list_any (same_dot q) g || (p q && list_any (same_dot q) xs))
next_gathered p g g' d xs rest q split e =
    ap (λ b. b || (p q && list_any (same_dot q) rest)) e
    ∙ regroup (list_any (same_dot q) g) (p q) (same_dot q d) (list_any (same_dot q) rest)
    ∙ ap (λ l. list_any (same_dot q) g || (p q && list_any (same_dot q) l)) (sym split)
  where
    regroup : (g b same rest : Bool) → ((g || (b && same)) || (b && rest)) ≡ (g || (b && (same || rest)))
    regroup true b same rest = refl
    regroup false true same rest = refl
    regroup false false same rest = refl

nothing_gathered : (g b : Bool) → (g || (b && false)) ≡ g
nothing_gathered true b = refl
nothing_gathered false true = refl
nothing_gathered false false = refl

-- all of the rows are done
pub none_gathered : (g b : Bool) (q : Dot) (xs : List (Dot × Row)) (i : ℕ) → length xs ≤ i → (g || (b && list_any (same_dot q) (dots_of (drop i xs)))) ≡ g
none_gathered g b q xs i le = ap (λ l. g || (b && list_any (same_dot q) (dots_of l))) (drop_all i xs le) ∙ nothing_gathered g b

-- a row is found at the dots that are listed
pub told_some : (q : Dot) (xs : List (Dot × Row)) → list_any (same_dot q) (dots_of xs) ≡ is_some (lookup (same_dot q) xs)
told_some q [] = refl
told_some q (x ∷ xs) = ap (λ b. same_dot q x.0 || b) (told_some q xs) ∙ by (same_dot q x.0) x.1 (lookup (same_dot q) xs)
  where
    by : (b : Bool) (r : Row) (o : Option Row) → (b || is_some o) ≡ is_some (cond b (Some r) o)
    by true r o = refl
    by false r o = refl

counts_within : (from to n : ℕ) → (is_lt (nat_cmp from n) && not (is_lt (nat_cmp to n))) ≡ (nat_lt from n && nat_le n to)
counts_within from to n = ap (λ b. b && not (is_lt (nat_cmp to n))) (below from n) ∙ ap (λ b. nat_lt from n && not b) (below to n) ∙ ap (λ b. nat_lt from n && b) (turned to n)
  where
    below_by : (a b : Bool) → is_lt (cond a Less (cond b Equal Greater)) ≡ a
    below_by true b = refl
    below_by false true = refl
    below_by false false = refl

    below : (m n : ℕ) → is_lt (nat_cmp m n) ≡ nat_lt m n
    below m n = below_by (nat_lt m n) _

    turned : (m n : ℕ) → not (nat_lt m n) ≡ nat_le n m
    turned m n = grind (arith, nat_tests)

between_by : (o : Ordering) (from to n : ℕ) → (is_lt (ordering_then o (nat_cmp from n)) && not (is_lt (ordering_then o (nat_cmp to n)))) ≡ (is_eq o && (nat_lt from n && nat_le n to))
between_by Less from to n = refl
between_by Equal from to n = counts_within from to n
between_by Greater from to n = refl

-- the dots between two dots of a replica are those of its range
pub between_dots : (r : Replica) (from to : ℕ) (q : Dot)
    → range_contains dot_cmp (Excluded (record { replica = r; count = from })) (Included (record { replica = r; count = to })) q ≡ range_has q (r, from, to)
between_dots r from to q =
    between_by (replica_cmp r q.replica) from to q.count
    ∙ ap (λ b. b && (nat_lt from q.count && nat_le q.count to)) ((eq_by_cmp_equiv replica_total).symm r q.replica)

some_cond : (b : Bool) (o : Option Row) → is_some (cond b o None) ≡ (is_some o && b)
some_cond true None = refl
some_cond true (Some r) = refl
some_cond false None = refl
some_cond false (Some r) = refl

left_and : (here there here' b : Bool) → here' ≡ (here && b) → ((here && not there) && here') ≡ ((here && not there) && b)
left_and true there here' b e = ap (λ x. not there && x) e
left_and false there here' b e = refl

-- the rows in the range are the live ones of the range
pub in_between : (here there : Rows) (g : Range) (es : List (Dot × Row)) (q : Dot)
    → es ≡ filter (λ e. range_has e.0 g) here.entries
    → (is_left (get dot_cmp here q) (get dot_cmp there q) && list_any (same_dot q) (keys_of es)) ≡ (is_left (get dot_cmp here q) (get dot_cmp there q) && range_has q g)
in_between here there g es q is =
    left_and (is_some (get dot_cmp here q)) (is_some (get dot_cmp there q)) (list_any (same_dot q) (keys_of es)) (range_has q g)
    (sym (is_some-lookup (same_dot q) es) ∙ ap (λ l. is_some (lookup (same_dot q) l)) is
    ∙ ap is_some (lookup-filter-keys (same_dot q) (λ d. range_has d g) (range_has q g) (λ k same. ap (λ (d : Dot). range_has d g) (sym (dots_equal q k same))) here.entries)
    ∙ some_cond (range_has q g) (get dot_cmp here q))

-- of the rows in a range, one more is done
pub next_keys : (here there : Rows) (g g' : List Dot) (d : Dot) (r : Row) (es rest : List (Dot × Row)) (q : Dot) → es ≡ (d, r) ∷ rest
    → list_any (same_dot q) g' ≡ (list_any (same_dot q) g || (is_left (get dot_cmp here q) (get dot_cmp there q) && same_dot q d))
    → (list_any (same_dot q) g' || (is_left (get dot_cmp here q) (get dot_cmp there q) && list_any (same_dot q) (keys_of rest))) ≡ (list_any (same_dot q) g || (is_left (get dot_cmp here q) (get dot_cmp there q) && list_any (same_dot q) (keys_of es)))
next_keys here there g g' d r es rest q split e = next_gathered (left_at here there) g g' d (keys_of es) (keys_of rest) q (ap keys_of split) e

no_greater : (o : Ordering) (from to : ℕ) → o ≡ Equal → nat_le from to ≡ true → is_gt (ordering_then o (nat_cmp from to)) ≡ false
no_greater o from to e le = ap (λ x. is_gt (ordering_then x (nat_cmp from to))) e ∙ by_tests (nat_lt from to) (from == to) (at_most from to le)
  where
    by_tests : (a b : Bool) → (a || b) ≡ true → is_gt (cond a Less (cond b Equal Greater)) ≡ false
    by_tests true b h = refl
    by_tests false true h = refl
    by_tests false false h = absurd (cc)

    at_most : (m n : ℕ) → nat_le m n ≡ true → (nat_lt m n || m == n) ≡ true
    at_most m n h = grind (arith, nat_tests)

pub forward_ends : (g : Range) → is_forward g ≡ true → is_gt (dot_cmp (record { replica = g.0; count = g.1 }) (record { replica = g.0; count = g.2 })) ≡ false
forward_ends g forward = no_greater (replica_cmp g.0 g.0) g.1 g.2 (tied_itself replica_total g.0) forward
