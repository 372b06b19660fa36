-- The set view of a joined delta: it covers what either covers, and tells what each in turn tells.
use Rattle.std.proofs.Common.{◌≡◌, ℕ, ◌+◌, ◌^◌, ◌≤◌, Bool, true, false, not, cond, ◌&&◌, ◌||◌, nat_le, nat_lt, nat_eq, List, [], ◌∷◌, ◌++◌, length, map as each, refl, sym, ◌∙◌, ap, subst, Option, Some, None, is_some, arith, true≢false, length-append, Ordering}
use Rattle.std.proofs.lemmas.Bool.Decides.{nat_tests}
use Rattle.std.specs.List.{list_any, list_all, filter}
use Rattle.std.specs.Ordering.{is_eq, nat_cmp, ordering_then}
use Rattle.std.specs.declared.cmp.Ordering.TheVariants.{Less, Equal, Greater}
use Rattle.std.specs.Cmp.{unsigned_ties}
use Rattle.std.specs.Map.{lookup}
use Rattle.std.specs.FinSet as set
use Rattle.std.specs.FinMap as map
use Rattle.std.proofs.lemmas.Map.Entries.{lookup-filter-keys}
use Rattle.presence_base.specs.declared.dots.Replica.{Replica}
use Rattle.presence_base.specs.declared.dots.Dot.{Dot}
use Rattle.presence_base.specs.declared.row.Row.{Row}
use Rattle.presence_base.specs.Order.{replica_cmp, same_replica, same_dot}
use Rattle.dot_context.specs.Runs.{in_run, holds}
use Rattle.orswot_core.specs.Limits.{is_count, is_dot}
use Rattle.orswot_core.specs.Telling.{Range, range_has, covers, live_row}
use Rattle.orswot_core.specs.Sets.{first_row, joined_row}
use Rattle.orswot_core.proofs.OrderFacts.{dots_equal, replicas_equal}
use Rattle.orswot_core.proofs.RunFacts.{any_either_list}
use Rattle.orswot_core.proofs.RowFacts.{first_done}
use Rattle.orswot_core.proofs.SoundFacts.{told_sound, only_covered, none_uncovered}
use Rattle.orswot_core.proofs.LawFacts.{same_at}
use Rattle.delta_range.specs.Deltas.{DeltaValue, telling, older_dots, own_range, older_ranges, ends_of, older_told, run_of, delta_of, is_older, is_older_range, IsDelta, GoesOn}
use Rattle.delta_range.specs.Longest.{up_to, longest}
use Rattle.delta_range.specs.Joining.{not_covered, joined, Joined}
use Rattle.delta_range.specs.Laws.{TellsInTurn, IsNoLarger, CoversTheSame}
use Rattle.delta_range.proofs.BoolFacts.{both, and_both}
use Rattle.delta_range.proofs.RunFacts.{length_longest, length_up_to, holds_longest}
use Rattle.delta_range.proofs.DeltaFacts.{older_has, older_if, delta_told, run_has, range_behind, delta_form, older_long}
use Rattle.delta_range.proofs.JoinFacts.{has, two_ranges, between, apart, older_of}

either_range : (s x y z : Bool) → x ≡ (y || z) → (s && x) ≡ ((s && y) || (s && z))
either_range true x y z e = e
either_range false x y z e = refl

-- what the joined delta covers, by what its ranges, its start and the older dots of both say of a dot
merged : (ra rb low ea eb : Bool) → (ea ≡ true → low ≡ true) → (eb ≡ true → low ≡ false → ra ≡ true)
    → (((ra || rb) || false) || (low && (ea || eb))) ≡ (((ra || false) || ea) || ((rb || false) || eb))
merged true rb low ea eb f g = refl
merged false true low true eb f g = refl
merged false true low false eb f g = refl
merged false false true ea eb f g = refl
merged false false false true eb f g = absurd (true≢false (sym (f refl)))
merged false false false false true f g = absurd (true≢false (sym (g refl refl)))
merged false false false false false f g = refl

lookup_append : (t : Dot → Bool) (xs ys : List (Dot × Row)) → lookup t (xs ++ ys) ≡ first_row (lookup t xs) (lookup t ys)
lookup_append t [] ys = refl
lookup_append t (x ∷ xs) ys =
    elim (t x.0) as (λ b. cond b (Some x.1) (lookup t (xs ++ ys)) ≡ first_row (cond b (Some x.1) (lookup t xs)) (lookup t ys)) [ true ↦ refl | false ↦ lookup_append t xs ys ]

second_first : (c : Bool) (o o' : Option Row) → (c ≡ false → o' ≡ None) → first_row (cond (not c) o None) o' ≡ cond c o' o
second_first true o o' f = refl
second_first false o o' f = ap (first_row o) (f refl) ∙ first_done o

neither : (x y : Bool) → (x ≡ true → ⊥) → (y ≡ true → ⊥) → ((x || false) || y) ≡ false
neither true y f g = absurd (f refl)
neither false true f g = absurd (g refl)
neither false false f g = refl

too_late : (n from to from' to' : ℕ) (s s' : Bool) → from ≤ to → from' ≡ to → (s && (nat_lt from' n && nat_le n to')) ≡ true → (s' && nat_le n from) ≡ true → ⊥
too_late n from to from' to' s s' f e h g =
    above n from to from' f e ((both (nat_lt from' n) (nat_le n to') ((both s (nat_lt from' n && nat_le n to') h).1)).0) ((both s' (nat_le n from) g).1)
  where
    above : (n from to mid : ℕ) → from ≤ to → mid ≡ to → nat_lt mid n ≡ true → nat_le n from ≡ true → ⊥
    above n from to mid f e g h = grind (arith, nat_tests)

pick : {Q : Type 0} (s : Bool) (r : Row) (o : Option Row) → is_some (cond s (Some r) o) ≡ true → (s ≡ true → Q) → (is_some o ≡ true → Q) → Q
pick true r o h f g = f refl
pick false r o h f g = g h

row_has : (b : DeltaValue) (d : Dot) (xs : List (Dot × Row)) → list_all (λ x. has b x.0) xs ≡ true → is_some (lookup (same_dot d) xs) ≡ true → has b d ≡ true
row_has b d [] h some = absurd (cc)
row_has b d (x ∷ xs) h some =
    let parts = both (has b x.0) (list_all (λ y. has b y.0) xs) h in
    pick (same_dot d x.0) x.1 (lookup (same_dot d) xs) some (λ same. ap (has b) (dots_equal d x.0 same) ∙ parts.0) (row_has b d xs parts.1)

module _ (a b : DeltaValue) (ha : IsDelta a) (hb : IsDelta b) (next : GoesOn a.owner a.to b) where
  one_of_both : (d : Dot) → has (joined a b) d ≡ (has a d || has b d)
  unfolding joined
  one_of_both d =
      let mid : a.to ≤ b.to = subst (λ n. n ≤ b.to) next.begins (hb.forward) in
      either_range (same_replica d.replica a.owner) (nat_lt a.from d.count && nat_le d.count b.to) (nat_lt a.from d.count && nat_le d.count a.to) (nat_lt a.to d.count && nat_le d.count b.to) (two_ranges d.count a.from a.to b.to ha.forward mid)
      ∙ ap (λ r. has a d || (same_replica d.replica r && (nat_lt a.to d.count && nat_le d.count b.to))) (sym next.owned)
      ∙ ap (λ n. has a d || (same_replica d.replica b.owner && (nat_lt n d.count && nat_le d.count b.to))) (sym next.begins)

  in_first : (d : Dot) → list_any (same_dot d) (older_dots b) ≡ true → nat_le d.count a.from ≡ false → has a d ≡ true
  in_first d e low =
      let parts = both (same_replica d.replica b.owner) (nat_le d.count b.from) (older_if b hb d e) in
      and_both (same_replica d.replica a.owner) (nat_lt a.from d.count && nat_le d.count a.to)
      (ap (same_replica d.replica) (sym next.owned) ∙ parts.0)
      (between d.count a.from a.to (ap (nat_le d.count) (sym next.begins) ∙ parts.1) low)

  pub union_at : (d : Dot) → covers (telling (joined a b)) d ≡ (covers (telling a) d || covers (telling b) d)
  union_at d =
      ap (λ x. (x || false) || list_any (same_dot d) (older_dots (joined a b))) (one_of_both d)
      ∙ ap (λ x. ((has a d || has b d) || false) || x) (older_of a b ha hb next d)
      ∙ merged (has a d) (has b d) (nat_le d.count a.from) (list_any (same_dot d) (older_dots a)) (list_any (same_dot d) (older_dots b))
      (λ e. (both (same_replica d.replica a.owner) (nat_le d.count a.from) (older_if a ha d e)).1)
      (in_first d)

  pub row_at : (d : Dot) → live_row (telling (joined a b)) d ≡ cond (covers (telling b) d) (live_row (telling b) d) (live_row (telling a) d)
  unfolding joined
  row_at d =
      let p = λ (k : Dot). not (covers (telling b) k) in
      lookup_append (same_dot d) (not_covered (telling b) a.live) b.live
      ∙ ap (λ o. first_row o (lookup (same_dot d) b.live)) (lookup-filter-keys (same_dot d) p (p d) (λ k same. ap p (sym (dots_equal d k same))) a.live)
      ∙ second_first (covers (telling b) d) (live_row (telling a) d) (live_row (telling b) d) (none_uncovered d (covers (telling b) d) (live_row (telling b) d) (told_sound (telling b) (delta_told b hb) d))

  pub tells_both : Joined a b (joined a b)
  tells_both = record { union = union_at; rows = row_at }

  -- what the next delta tells live, the first doesn't cover
  pub fresh : (d : Dot) → is_some (live_row (telling b) d) ≡ true → covers (telling a) d ≡ false
  fresh d some =
      let inside : has b d ≡ true = row_has b d b.live hb.within some in
      neither (has a d) (list_any (same_dot d) (older_dots a))
      (λ e. true≢false (sym inside ∙ apart a b ha hb next d e))
      (λ e. too_late d.count a.from a.to b.from b.to (same_replica d.replica b.owner) (same_replica d.replica a.owner) ha.forward next.begins inside (older_if a ha d e))

or_groups : (a b c : Bool) → (a || (b || c)) ≡ ((a || b) || c)
or_groups true b c = refl
or_groups false b c = refl

-- at one dot: what the joined delta leaves is what its two parts leave in turn
in_turn : (r o o' : Option Row) (c oc oc' : Bool) → (is_some o ≡ true → oc ≡ true) → (is_some o' ≡ true → oc' ≡ true) → (is_some o' ≡ true → oc ≡ false)
    → joined_row r c (cond oc' o' o) (oc || oc') ≡ joined_row (joined_row r c o oc) (c || oc) o' oc'
in_turn r o (Some y) c oc false f g h = absurd (true≢false (sym (g refl)))
in_turn r o (Some y) c true true f g h = absurd (true≢false (h refl))
in_turn r (Some x) (Some y) c false true f g h = absurd (true≢false (sym (f refl)))
in_turn None None (Some y) true false true f g h = refl
in_turn None None (Some y) false false true f g h = refl
in_turn (Some r) None (Some y) c false true f g h = refl
in_turn None None None c oc true f g h = refl
in_turn None (Some x) None true oc true f g h = refl
in_turn None (Some x) None false oc true f g h = refl
in_turn (Some r) None None c true true f g h = refl
in_turn (Some r) None None c false true f g h = refl
in_turn (Some r) (Some x) None c true true f g h = refl
in_turn (Some r) (Some x) None c false true f g h = refl
in_turn None None None c oc false f g h = refl
in_turn None (Some x) None true oc false f g h = refl
in_turn None (Some x) None false oc false f g h = refl
in_turn (Some r) None None c true false f g h = refl
in_turn (Some r) None None c false false f g h = refl
in_turn (Some r) (Some x) None c oc false f g h = refl

pub tells_in_turn : TellsInTurn
tells_in_turn s x y z a b ha hb next hx hy hz = same_at z y (λ d.
    let c = set.contains s.covered d in
    let r = map.get s.live d in
    let oc = covers (telling a) d in
    let oc' = covers (telling b) d in
    let o = live_row (telling a) d in
    let o' = live_row (telling b) d in (
      (hz d).0 ∙ ap (λ v. c || v) (union_at a b ha hb next d) ∙ or_groups c oc oc' ∙ ap (λ v. v || oc') (sym ((hx d).0)) ∙ sym ((hy d).0),
      (hz d).1
          ∙ ap (λ v. joined_row r c v (covers (telling (joined a b)) d)) (row_at a b ha hb next d)
          ∙ ap (λ v. joined_row r c (cond oc' o' o) v) (union_at a b ha hb next d)
          ∙ in_turn r o o' c oc oc' (only_covered d oc o (told_sound (telling a) (delta_told a ha) d)) (only_covered d oc' o' (told_sound (telling b) (delta_told b hb) d)) (fresh a b ha hb next d)
          ∙ ap (λ v. joined_row v (c || oc) o' oc') (sym ((hx d).1))
          ∙ ap (λ v. joined_row (map.get x.live d) v o' oc') (sym ((hx d).0))
          ∙ sym ((hy d).1),
    ))

-- ---- sizes

pub length_left : {A : Type 0} (p : A → Bool) (xs : List A) → length (filter p xs) ≤ length xs
length_left p [] = omega arith
length_left p (x ∷ xs) =
    let rest : length (filter p xs) ≤ length xs = length_left p xs in
    elim (p x) as (λ b. length (cond b (x ∷ filter p xs) (filter p xs)) ≤ length (x ∷ xs)) [ true ↦ omega arith | false ↦ omega arith ]

pub no_larger : IsNoLarger
unfolding joined
no_larger a b =
    let left = not_covered (telling b) a.live in
    let fewest : length (longest (up_to a.from (a.older ++ b.older))) ≤ length (up_to a.from (a.older ++ b.older)) = length_longest (up_to a.from (a.older ++ b.older)) in
    let some : length (up_to a.from (a.older ++ b.older)) ≤ length (a.older ++ b.older) = length_up_to a.from (a.older ++ b.older) in
    let older : length (a.older ++ b.older) ≡ length a.older + length b.older = length-append a.older b.older in
    let fewer : length left ≤ length a.live = length_left (λ x. not (covers (telling b) x.0)) a.live in
    let live : length (left ++ b.live) ≡ length left + length b.live = length-append left b.live in
    omega arith

-- ---- a told value as a delta

then_equal : (o p : Ordering) → (is_eq o && is_eq p) ≡ is_eq (ordering_then o p)
then_equal Less p = refl
then_equal Equal p = refl
then_equal Greater p = refl

one_dot : (q d : Dot) → (same_replica q.replica d.replica && nat_eq q.count d.count) ≡ same_dot q d
one_dot q d = ap (λ b. same_replica q.replica d.replica && b) (unsigned_ties q.count d.count) ∙ then_equal (replica_cmp q.replica d.replica) (nat_cmp q.count d.count)

-- the runs of dots of one owner have those dots
named_above : (q : Dot) (owner : Replica) (from : ℕ) (ds : List Dot) → list_all is_dot ds ≡ true → list_all (is_older owner from) ds ≡ true
    → (same_replica q.replica owner && holds (each run_of ds) q.count) ≡ list_any (same_dot q) ds
named_above q owner from [] h k = none (same_replica q.replica owner)
  where
    none : (s : Bool) → (s && false) ≡ false
    none true = refl
    none false = refl
named_above q owner from (d ∷ ds) h k =
    let limits = both (is_dot d) (list_all is_dot ds) h in
    let counts = both (is_count d.replica.incarnation) (is_count d.count) limits.0 in
    let parts = both (is_older owner from d) (list_all (is_older owner from) ds) k in
    let owned : d.replica ≡ owner = replicas_equal d.replica owner ((both (same_replica d.replica owner) (nat_le d.count from) parts.0).0) in
    spread (same_replica q.replica owner) (in_run (run_of d) q.count) (holds (each run_of ds) q.count)
    ∙ ap (λ x. (same_replica q.replica owner && in_run (run_of d) q.count) || x) (named_above q owner from ds limits.1 parts.1)
    ∙ ap (λ x. (same_replica q.replica owner && x) || list_any (same_dot q) ds) (run_has q.count d.count ((both (nat_le 1 d.count) (nat_le d.count (2 ^ 62)) counts.1).0))
    ∙ ap (λ r. (same_replica q.replica r && nat_eq q.count d.count) || list_any (same_dot q) ds) (sym owned)
    ∙ ap (λ x. x || list_any (same_dot q) ds) (one_dot q d)
  where
    spread : (s x y : Bool) → (s && (x || y)) ≡ ((s && x) || (s && y))
    spread true x y = refl
    spread false x y = refl

-- the ranges of one owner have the dots of their ends' counts
named_within : (q : Dot) (owner : Replica) (from : ℕ) (gs : List Range) → list_all (is_older_range owner from) gs ≡ true
    → (same_replica q.replica owner && holds (each ends_of gs) q.count) ≡ list_any (range_has q) gs
named_within q owner from [] h = none (same_replica q.replica owner)
  where
    none : (s : Bool) → (s && false) ≡ false
    none true = refl
    none false = refl
named_within q owner from (g ∷ gs) h =
    let parts = both (is_older_range owner from g) (list_all (is_older_range owner from) gs) h in
    let owned : g.0 ≡ owner = replicas_equal g.0 owner ((both (same_replica g.0 owner) (nat_lt g.1 g.2 && nat_le g.2 from) parts.0).0) in
    spread (same_replica q.replica owner) (in_run (ends_of g) q.count) (holds (each ends_of gs) q.count)
    ∙ ap (λ x. (same_replica q.replica owner && in_run (ends_of g) q.count) || x) (named_within q owner from gs parts.1)
    ∙ ap (λ r. (same_replica q.replica r && in_run (ends_of g) q.count) || list_any (range_has q) gs) (sym owned)
  where
    spread : (s x y : Bool) → (s && (x || y)) ≡ ((s && x) || (s && y))
    spread true x y = refl
    spread false x y = refl

holds_both : (rs ss : List (ℕ × ℕ)) (n : ℕ) → holds (rs ++ ss) n ≡ (holds rs n || holds ss n)
holds_both rs ss n = any_either_list (λ r. in_run r n) rs ss

pub covers_the_same : CoversTheSame
covers_the_same t q told h =
    let form = delta_form t h in
    let owner = (own_range t.ranges).0 in
    ap (λ x. (range_has q (own_range t.ranges) || false) || x)
    (older_has (delta_of t) q
    ∙ ap (λ x. same_replica q.replica owner && x) (holds_longest (older_told t) q.count (older_long t h told) ∙ holds_both (each run_of t.extras) (each ends_of (older_ranges t.ranges)) q.count)
    ∙ spread (same_replica q.replica owner) (holds (each run_of t.extras) q.count) (holds (each ends_of (older_ranges t.ranges)) q.count)
    ∙ ap (λ x. x || (same_replica q.replica owner && holds (each ends_of (older_ranges t.ranges)) q.count)) (named_above q owner (own_range t.ranges).1 t.extras told.extras form.extras)
    ∙ ap (λ x. list_any (same_dot q) t.extras || x) (named_within q owner (own_range t.ranges).1 (older_ranges t.ranges) form.ranges))
    ∙ turned (range_has q (own_range t.ranges)) (list_any (same_dot q) t.extras) (list_any (range_has q) (older_ranges t.ranges))
    ∙ ap (λ x. x || list_any (same_dot q) t.extras) (sym (any_either_list (range_has q) (older_ranges t.ranges) (own_range t.ranges ∷ [])) ∙ ap (list_any (range_has q)) (range_behind t.ranges form.some))
  where
    spread : (s x y : Bool) → (s && (x || y)) ≡ ((s && x) || (s && y))
    spread true x y = refl
    spread false x y = refl

    turned : (own extras older : Bool) → ((own || false) || (extras || older)) ≡ ((older || (own || false)) || extras)
    turned true true true = refl
    turned true true false = refl
    turned true false true = refl
    turned true false false = refl
    turned false true true = refl
    turned false true false = refl
    turned false false true = refl
    turned false false false = refl
