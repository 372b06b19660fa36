-- Gathering rows by their dots, and lists of them.
use Rattle.std.proofs.Common.{◌≡◌, ℕ, ◌+◌, ◌<◌, ◌≤◌, Bool, true, false, cond, ◌&&◌, ◌||◌, List, [], ◌∷◌, length, drop, get_or, Option, Some, None, is_some, refl, sym, ◌∙◌, ap, subst, drop_of_length-le}
use Rattle.std.specs.FinMap as map
use Rattle.std.specs.List.{AllByRecursion, list_any, filter}
use Rattle.std.specs.List.Sorted.{IsStrictlySortedBy}
use Rattle.std.specs.Map.{lookup, keys_of}
use Rattle.std.specs.BTreeMap.{get}
use Rattle.std.specs.Ordering.{is_eq}
use Rattle.std.specs.declared.cmp.Ordering.TheVariants.{Less}
use Rattle.std.proofs.lemmas.Map.Entries.{lookup-filter-keys}
use Rattle.std.proofs.lemmas.Map.Made.{is_some-lookup}
use Rattle.std.proofs.lemmas.Bool.{or_parts}
use Rattle.presence_base.specs.declared.dots.Replica.{Replica}
use Rattle.presence_base.specs.declared.dots.Dot.{Dot}
use Rattle.presence_base.specs.declared.row.Row.{Row}
use Rattle.presence_base.specs.Order.{dot_cmp, same_dot, same_replica}
use Rattle.orswot_core.specs.Telling.{Range, range_has}
use Rattle.orswot_core.specs.Checks.{has_repeat, dots_of}
use Rattle.orswot_core.proofs.OrderFacts.{dots_equal, flipped}
use Rattle.orswot_core.specs.Sets.{Rows, LiveRows, first_row, rows_by, rows_within}
use Rattle.orswot_core.proofs.RowFacts.{find_is}
use Rattle.presence_journal.specs.declared.entry.Outcome.TheVariants as outcomes_are
use Rattle.presence_journal.specs.declared.step.Step.{Step}
use Rattle.presence_journal.specs.declared.entry.Outcome.{Outcome}
use Rattle.presence_journal.specs.History.{has_dot, row_added}
use Rattle.presence_journal.proofs.Walking.{drop_next}
use Rattle.tracker_known.specs.Picks.{Gathers, picked, one_row}
use Rattle.tracker_shown.specs.Turns.{IsListOf}

-- the rows of a replica

row_at_entries : (m : LiveRows) (d : Dot) → lookup (same_dot d) (map.entries m) ≡ map.get m d
row_at_entries m d = sym (find_is (map.entries m) d) ∙ sym (map.get-entries m d)

-- the live rows of a replica, by dot
pub found_by : (m : LiveRows) (r : Replica) (d : Dot) → lookup (same_dot d) (rows_by m r) ≡ cond (same_replica d.replica r) (map.get m d) None
found_by m r d =
    lookup-filter-keys (same_dot d) (λ k. same_replica k.replica r) (same_replica d.replica r) (λ k same. ap (λ (x : Dot). same_replica x.replica r) (sym (dots_equal d k same))) (map.entries m)
    ∙ ap (λ o. cond (same_replica d.replica r) o None) (row_at_entries m d)

-- one dot

pub put_gathers : (source : LiveRows) (d : Dot) (r : Row) (m n : Rows) → Some r ≡ map.get source d → ((q : Dot) → get dot_cmp n q ≡ cond (same_dot d q) (Some r) (get dot_cmp m q)) → Gathers source (λ q. same_dot q d) m n
put_gathers source d r m n found puts q = puts q ∙ (ap (λ b. cond b (Some r) (get dot_cmp m q)) (flipped d q) ∙ go (same_dot q d) refl)
  where
    go : (b : Bool) → same_dot q d ≡ b → cond b (Some r) (get dot_cmp m q) ≡ first_row (cond b (map.get source q) None) (get dot_cmp m q)
    go true e = ap (λ o. first_row o (get dot_cmp m q)) (found ∙ ap (map.get source) (sym (dots_equal q d e)))
    go false e = refl

pub none_gathers : (source : LiveRows) (d : Dot) (m : Rows) → None ≡ map.get source d → Gathers source (λ q. same_dot q d) m m
none_gathers source d m none q = go (same_dot q d) refl
  where
    go : (b : Bool) → same_dot q d ≡ b → get dot_cmp m q ≡ first_row (cond b (map.get source q) None) (get dot_cmp m q)
    go true e = ap (λ o. first_row o (get dot_cmp m q)) (none ∙ ap (map.get source) (sym (dots_equal q d e)))
    go false e = refl

-- the same dots
pub gathers_like : (source : LiveRows) (test other : Dot → Bool) (m n : Rows) → ((q : Dot) → test q ≡ other q) → Gathers source test m n → Gathers source other m n
gathers_like source test other m n same gathers q = gathers q ∙ ap (λ b. first_row (cond b (map.get source q) None) (get dot_cmp m q)) (same q)

-- none
pub gathers_none : (source : LiveRows) (test : Dot → Bool) (m : Rows) → ((q : Dot) → test q ≡ false) → Gathers source test m m
gathers_none source test m none q = ap (λ b. first_row (cond b (map.get source q) None) (get dot_cmp m q)) (sym (none q))

-- loops: the rows of the rest upon n are those of all upon m

abbrev pub Still : LiveRows → (Dot → Bool) → Rows → (Dot → Bool) → Rows → Type 0
Still source rest n test m = (q : Dot) → first_row (picked source rest q) (get dot_cmp n q) ≡ first_row (picked source test q) (get dot_cmp m q)

pub compose : (o s : Option Row) (a b : Bool) → first_row (cond b s None) (first_row (cond a s None) o) ≡ first_row (cond (a || b) s None) o
compose o None true true = refl
compose o None true false = refl
compose o None false true = refl
compose o None false false = refl
compose o (Some r) true true = refl
compose o (Some r) true false = refl
compose o (Some r) false true = refl
compose o (Some r) false false = refl

pub still_step : (source : LiveRows) (all head rest test : Dot → Bool) (m n l : Rows) → ((q : Dot) → all q ≡ (head q || rest q)) → Gathers source head n l → Still source all n test m → Still source rest l test m
still_step source all head rest test m n l split gathers still q =
    ap (first_row (cond (rest q) (map.get source q) None)) (gathers q)
    ∙ (compose (get dot_cmp n q) (map.get source q) (head q) (rest q)
    ∙ (ap (λ b. first_row (cond b (map.get source q) None) (get dot_cmp n q)) (sym (split q)) ∙ still q))

pub still_start : (source : LiveRows) (all test : Dot → Bool) (m : Rows) → ((q : Dot) → all q ≡ test q) → Still source all m test m
still_start source all test m same q = ap (λ b. first_row (cond b (map.get source q) None) (get dot_cmp m q)) (same q)

pub still_end : (source : LiveRows) (rest test : Dot → Bool) (m n : Rows) → ((q : Dot) → rest q ≡ false) → Still source rest n test m → Gathers source test m n
still_end source rest test m n none still q = ap (λ b. first_row (cond b (map.get source q) None) (get dot_cmp n q)) (sym (none q)) ∙ still q

-- of a list of dots

pub dots_split : (ds : List Dot) (i : ℕ) (d : Dot) → i < length ds → d ≡ get_or ds i d → (q : Dot) → has_dot (drop i ds) q ≡ (same_dot q d || has_dot (drop (i + 1) ds) q)
dots_split ds i d less is q = ap (λ l. has_dot l q) (drop_next ds i d less is)

pub dots_done : (ds : List Dot) (i : ℕ) → length ds ≤ i → (q : Dot) → has_dot (drop i ds) q ≡ false
dots_done ds i done q = ap (λ l. has_dot l q) (drop_of_length-le ds done)

-- of the rows of a replica

abbrev pub keyed_by : List (Dot × Row) → Dot → Bool
keyed_by es q = list_any (same_dot q) (keys_of es)

pub keys_split : (es rest : List (Dot × Row)) (d : Dot) (r : Row) → es ≡ (d, r) ∷ rest → (q : Dot) → keyed_by es q ≡ (same_dot q d || keyed_by rest q)
keys_split es rest d r split q = ap (λ l. keyed_by l q) split

pub keys_done : (es : List (Dot × Row)) → es ≡ [] → (q : Dot) → keyed_by es q ≡ false
keys_done es none q = ap (λ l. keyed_by l q) none

cond_none : (b : Bool) → cond {A = Option Row} b None None ≡ None
cond_none true = refl
cond_none false = refl

-- a dot is among those of the rows of a replica where it is one of the replica's with a row
pub replica_keys : (source : LiveRows) (r : Replica) (m : Rows) (es : List (Dot × Row)) → es ≡ rows_by source r → Still source (keyed_by es) m (λ q. same_replica q.replica r) m
replica_keys source r m es is q = ap (λ o. first_row o (get dot_cmp m q)) (go (map.get source q) refl)
  where
    some_of : (b : Bool) (x : Row) → is_some (cond b (Some x) None) ≡ b
    some_of true x = refl
    some_of false x = refl

    keyed : keyed_by es q ≡ is_some (cond (same_replica q.replica r) (map.get source q) None)
    keyed = sym (is_some-lookup (same_dot q) es) ∙ (ap (λ l. is_some (lookup (same_dot q) l)) is ∙ ap is_some (found_by source r q))

    go : (o : Option Row) → map.get source q ≡ o → cond (keyed_by es q) o None ≡ cond (same_replica q.replica r) o None
    go None e = cond_none (keyed_by es q) ∙ sym (cond_none (same_replica q.replica r))
    go (Some x) e = ap (λ b. cond b (Some x) None) (keyed ∙ (ap (λ o. is_some (cond (same_replica q.replica r) o None)) e ∙ some_of (same_replica q.replica r) x))

-- of a range, without some dots

-- the live rows in a range, by dot
found_within : (m : LiveRows) (g : Range) (d : Dot) → lookup (same_dot d) (rows_within m g) ≡ cond (range_has d g) (map.get m d) None
found_within m g d =
    lookup-filter-keys (same_dot d) (λ k. range_has k g) (range_has d g) (λ k same. ap (λ (x : Dot). range_has x g) (sym (dots_equal d k same))) (map.entries m)
    ∙ ap (λ o. cond (range_has d g) o None) (row_at_entries m d)

-- a dot is among those of the rows in a range where it lies there and has a row
pub range_keys : (source : LiveRows) (g : Range) (stays : Dot → Bool) (m : Rows) (es : List (Dot × Row)) → es ≡ rows_within source g
    → Still source (λ q. keyed_by es q && stays q) m (λ q. range_has q g && stays q) m
range_keys source g stays m es is q = ap (λ o. first_row o (get dot_cmp m q)) (same_where (keyed_by es q) (range_has q g) (stays q) (map.get source q)
    (sym (is_some-lookup (same_dot q) es) ∙ (ap (λ l. is_some (lookup (same_dot q) l)) is ∙ ap is_some (found_within source g q))))
  where
    same_where : (a b n : Bool) (o : Option Row) → a ≡ is_some (cond b o None) → cond (a && n) o None ≡ cond (b && n) o None
    same_where a b n None e = cond_none (a && n) ∙ sym (cond_none (b && n))
    same_where a true n (Some x) e = ap (λ c. cond (c && n) (Some x) None) e
    same_where a false n (Some x) e = ap (λ c. cond (c && n) (Some x) None) e

pub range_split : (out : Dot → Bool) (es rest : List (Dot × Row)) (d : Dot) (r : Row) → es ≡ (d, r) ∷ rest → (q : Dot) → (keyed_by es q && out q) ≡ ((same_dot q d && out q) || (keyed_by rest q && out q))
range_split out es rest d r split q = ap (λ b. b && out q) (keys_split es rest d r split q) ∙ go (same_dot q d) (keyed_by rest q) (out q)
  where
    go : (a b n : Bool) → ((a || b) && n) ≡ ((a && n) || (b && n))
    go true b true = refl
    go true true false = refl
    go true false false = refl
    go false b n = refl

pub range_done : (out : Dot → Bool) (es : List (Dot × Row)) → es ≡ [] → (q : Dot) → (keyed_by es q && out q) ≡ false
range_done out es none q = ap (λ b. b && out q) (keys_done es none q)

-- lists

no_repeat : (ks : List Dot) → IsStrictlySortedBy dot_cmp ks → has_repeat same_dot ks ≡ false
unfolding IsStrictlySortedBy
no_repeat [] h = refl
no_repeat (k ∷ ks) h = ap (λ b. b || has_repeat same_dot ks) (none_tied ks h.0) ∙ no_repeat ks h.1
  where
    none_tied : (xs : List Dot) → AllByRecursion (λ y. dot_cmp k y ≡ Less) xs → list_any (same_dot k) xs ≡ false
    none_tied [] above = refl
    none_tied (x ∷ xs) above = ap (λ o. is_eq o || list_any (same_dot k) xs) above.0 ∙ none_tied xs above.1

-- the entries of a map, in order
pub entries_list : (m : Rows) (xs : List (Dot × Row)) → xs ≡ m.entries → IsStrictlySortedBy dot_cmp (keys_of m.entries) → IsListOf (get dot_cmp m) xs
entries_list m xs is sorted = record {
  found = λ d. ap (lookup (same_dot d)) is;
  once = ap (λ l. has_repeat same_dot (dots_of l)) is ∙ no_repeat (keys_of m.entries) sorted;
}

pub list_like : (f g : Dot → Option Row) (xs : List (Dot × Row)) → ((d : Dot) → f d ≡ g d) → IsListOf f xs → IsListOf g xs
list_like f g xs same list = record { found = λ d. list.found d ∙ same d; once = list.once }

pub no_list : (f : Dot → Option Row) → ((d : Dot) → None ≡ f d) → IsListOf f []
no_list f none = record { found = none; once = refl }

pub none_list : (f : Dot → Option Row) (xs : List (Dot × Row)) → xs ≡ [] → ((d : Dot) → None ≡ f d) → IsListOf f xs
none_list f xs is none = subst (IsListOf f) (sym is) (no_list f none)

-- what is gathered into an empty map
pub gathered : (source : LiveRows) (test : Dot → Bool) (m n : Rows) (xs : List (Dot × Row)) → m.entries ≡ [] → Gathers source test m n → IsListOf (get dot_cmp n) xs → IsListOf (picked source test) xs
gathered source test m n xs empty gathers list = list_like (get dot_cmp n) (picked source test) xs (λ d. gathers d ∙ (ap (λ es. first_row (picked source test d) (lookup (same_dot d) es)) empty ∙ alone (picked source test d))) list
  where
    alone : (o : Option Row) → first_row o None ≡ o
    alone None = refl
    alone (Some r) = refl

-- the row that an entry adds

pub one_list : (d : Dot) (o : Option Row) → IsListOf (λ q. cond (same_dot q d) o None) (one_row d o)
one_list d None = record { found = λ q. none (same_dot q d); once = refl }
  where
    none : (b : Bool) → None ≡ cond {A = Option Row} b None None
    none true = refl
    none false = refl
one_list d (Some r) = record { found = λ q. refl; once = refl }

pub rest_adds : (s : Step) (o : Outcome) → ((x : Dot) → o ≡ outcomes_are.Added x → ⊥) → ((x y : Dot) → o ≡ outcomes_are.Replaced x y → ⊥) → (d : Dot) → None ≡ row_added s o d
rest_adds s (outcomes_are.Added x) f g d = absurd (f x refl)
rest_adds s (outcomes_are.Replaced x y) f g d = absurd (g x y refl)
rest_adds s _ f g d = refl

-- those that pass a test

any_filter : (p : Dot → Bool) (d : Dot) (xs : List (Dot × Row)) → list_any (same_dot d) (dots_of xs) ≡ false → list_any (same_dot d) (dots_of (filter (λ x. p x.0) xs)) ≡ false
any_filter p d [] none = refl
any_filter p d (x ∷ xs) none = go (p x.0) (same_dot d x.0) none (any_filter p d xs) refl
  where
    go : (b c : Bool) → (c || list_any (same_dot d) (dots_of xs)) ≡ false → (list_any (same_dot d) (dots_of xs) ≡ false → list_any (same_dot d) (dots_of (filter (λ y. p y.0) xs)) ≡ false)
        → (c ≡ same_dot d x.0) → list_any (same_dot d) (dots_of (cond b (x ∷ filter (λ y. p y.0) xs) (filter (λ y. p y.0) xs))) ≡ false
    go true true n ih is = absurd (cc)
    go true false n ih is = ap (λ c. c || list_any (same_dot d) (dots_of (filter (λ y. p y.0) xs))) (sym is) ∙ ih n
    go false true n ih is = absurd (cc)
    go false false n ih is = ih n

pub filter_once : (p : Dot → Bool) (xs : List (Dot × Row)) → has_repeat same_dot (dots_of xs) ≡ false → has_repeat same_dot (dots_of (filter (λ x. p x.0) xs)) ≡ false
filter_once p [] once = refl
filter_once p (x ∷ xs) once =
    let parts = or_parts (list_any (same_dot x.0) (dots_of xs)) (has_repeat same_dot (dots_of xs)) once in
    go (p x.0) parts.0 (filter_once p xs parts.1)
  where
    go : (b : Bool) → list_any (same_dot x.0) (dots_of xs) ≡ false → has_repeat same_dot (dots_of (filter (λ y. p y.0) xs)) ≡ false → has_repeat same_dot (dots_of (cond b (x ∷ filter (λ y. p y.0) xs) (filter (λ y. p y.0) xs))) ≡ false
    go true none rest = ap (λ b. b || has_repeat same_dot (dots_of (filter (λ y. p y.0) xs))) (any_filter p x.0 xs none) ∙ rest
    go false none rest = rest

pub filter_list : (p : Dot → Bool) (xs ys : List (Dot × Row)) → ys ≡ filter (λ x. p x.0) xs → has_repeat same_dot (dots_of xs) ≡ false → IsListOf (λ d. cond (p d) (lookup (same_dot d) xs) None) ys
filter_list p xs ys is once = record {
  found = λ d. ap (lookup (same_dot d)) is ∙ lookup-filter-keys (same_dot d) p (p d) (λ k same. ap p (sym (dots_equal d k same))) xs;
  once = ap (λ l. has_repeat same_dot (dots_of l)) is ∙ filter_once p xs once;
}

-- rows that are wanted or not

pub none_wanted : (source : LiveRows) (r : Replica) (b : Bool) → b ≡ false → (d : Dot) → None ≡ picked source (λ x. same_replica x.replica r && b) d
none_wanted source r b is d = ap (λ x. cond x (map.get source d) None) (sym (never (same_replica d.replica r)) ∙ ap (λ x. same_replica d.replica r && x) (sym is))
  where
    never : (x : Bool) → (x && false) ≡ false
    never true = refl
    never false = refl

pub all_wanted : (source : LiveRows) (r : Replica) (b : Bool) → b ≡ true → (d : Dot) → picked source (λ x. same_replica x.replica r) d ≡ picked source (λ x. same_replica x.replica r && b) d
all_wanted source r b is d = ap (λ x. cond x (map.get source d) None) (sym (same (same_replica d.replica r)) ∙ ap (λ x. same_replica d.replica r && x) (sym is))
  where
    same : (x : Bool) → (x && true) ≡ x
    same true = refl
    same false = refl

-- a row under a dot that an outcome adds
pub added_list : (f : Dot → Option Row) (d : Dot) (o : Option Row) (xs : List (Dot × Row)) → ((q : Dot) → cond (same_dot q d) o None ≡ f q) → xs ≡ one_row d o → IsListOf f xs
added_list f d o xs same is = subst (IsListOf f) (sym is) (list_like (λ q. cond (same_dot q d) o None) f (one_row d o) same (one_list d o))

pub and_is_true : (a b : Bool) → b ≡ true → (a && b) ≡ a
and_is_true true b is = is
and_is_true false b is = refl

pub and_is_false : (a b : Bool) → b ≡ false → (a && b) ≡ false
and_is_false true b is = is
and_is_false false b is = refl
