-- A joined delta: what it keeps, covers and tells.
use Rattle.std.proofs.Common.{◌≡◌, ℕ, ◌^◌, ◌≤◌, Bool, true, false, not, cond, ◌&&◌, ◌||◌, nat_le, nat_lt, List, [], ◌∷◌, ◌++◌, refl, sym, ◌∙◌, ap, subst, arith, true≢false}
use Rattle.std.proofs.lemmas.Bool.Decides.{nat_tests}
use Rattle.std.specs.List.{list_any, list_all, filter}
use Rattle.std.proofs.lemmas.List.Folds.{list_any-append, list_all-append}
use Rattle.presence_base.specs.declared.dots.Dot.{Dot}
use Rattle.presence_base.specs.declared.row.Row.{Row}
use Rattle.presence_base.specs.Order.{same_replica, same_dot}
use Rattle.dot_context.specs.Runs.{in_run, holds, AreLong}
use Rattle.orswot_core.specs.Limits.{is_count, is_dot, is_row, is_range}
use Rattle.orswot_core.specs.Telling.{range_has, covers}
use Rattle.orswot_core.specs.Checks.{has_repeat, dots_of}
use Rattle.orswot_core.proofs.OrderFacts.{dots_equal}
use Rattle.delta_range.specs.Deltas.{DeltaValue, telling, own_dots, older_dots, IsDelta, GoesOn}
use Rattle.delta_range.specs.Longest.{up_to}
use Rattle.delta_range.specs.Joining.{not_covered, joined}
use Rattle.delta_range.proofs.BoolFacts.{both, and_both}
use Rattle.delta_range.proofs.RunFacts.{long_runs, long_append, long_up_to, longest_runs, holds_longest, ends_longest, holds_up_to, ends_up_to}
use Rattle.delta_range.proofs.DeltaFacts.{all_at, older_has}

abbrev pub has : DeltaValue → Dot → Bool
has d q = range_has q (own_dots d)

-- ---- counts

above_end : (n from from' to : ℕ) (s : Bool) → from' ≡ to → (s && (nat_lt from n && nat_le n to)) ≡ true → nat_lt from' n ≡ false
above_end n from from' to s e h = outside n from' (subst (λ t. n ≤ t) (sym e) (inside n to ((both (nat_lt from n) (nat_le n to) ((both s (nat_lt from n && nat_le n to) h).1)).1)))
  where
    inside : (a b : ℕ) → nat_le a b ≡ true → a ≤ b
    inside a b h = grind (arith, nat_tests)

    outside : (a b : ℕ) → a ≤ b → nat_lt b a ≡ false
    outside a b h = grind (arith, nat_tests)

at_most : (n from to : ℕ) → nat_le n from ≡ true → nat_lt from n ≡ false
at_most n from to h = grind (arith, nat_tests)

wider : (n from from' to to' : ℕ) → from' ≤ from → to ≤ to' → (nat_lt from n && nat_le n to) ≡ true → (nat_lt from' n && nat_le n to') ≡ true
wider n from from' to to' f g h =
    let parts = both (nat_lt from n) (nat_le n to) h in
    and_both (nat_lt from' n) (nat_le n to') (low n from from' f parts.0) (high n to to' g parts.1)
  where
    low : (n from from' : ℕ) → from' ≤ from → nat_lt from n ≡ true → nat_lt from' n ≡ true
    low n from from' f h = grind (arith, nat_tests)

    high : (n to to' : ℕ) → to ≤ to' → nat_le n to ≡ true → nat_le n to' ≡ true
    high n to to' g h = grind (arith, nat_tests)

-- a range in two
pub two_ranges : (n from mid to : ℕ) → from ≤ mid → mid ≤ to → (nat_lt from n && nat_le n to) ≡ ((nat_lt from n && nat_le n mid) || (nat_lt mid n && nat_le n to))
two_ranges n from mid to f g = grind (arith, nat_tests)

pub between : (n from mid : ℕ) → nat_le n mid ≡ true → nat_le n from ≡ false → (nat_lt from n && nat_le n mid) ≡ true
between n from mid f g = and_both (nat_lt from n) (nat_le n mid) (above n from g) f
  where
    above : (n from : ℕ) → nat_le n from ≡ false → nat_lt from n ≡ true
    above n from g = grind (arith, nat_tests)

-- ---- lists

pub all_filter : {A : Type 0} (p q : A → Bool) (xs : List A) → list_all q xs ≡ true → list_all q (filter p xs) ≡ true
all_filter p q [] h = refl
all_filter p q (x ∷ xs) h =
    let parts = both (q x) (list_all q xs) h in
    elim (p x) as (λ b. list_all q (cond b (x ∷ filter p xs) (filter p xs)) ≡ true) [
      | true ↦ and_both (q x) (list_all q (filter p xs)) parts.0 (all_filter p q xs parts.1)
      | false ↦ all_filter p q xs parts.1
    ]

filter_alike : {A : Type 0} (q p p' : A → Bool) → ((x : A) → q x ≡ true → p x ≡ p' x) → (xs : List A) → list_all q xs ≡ true → filter p xs ≡ filter p' xs
filter_alike q p p' f [] h = refl
filter_alike q p p' f (x ∷ xs) h =
    let parts = both (q x) (list_all q xs) h in
    ap (λ b. cond b (x ∷ filter p xs) (filter p xs)) (f x parts.0) ∙ ap (λ l. cond (p' x) (x ∷ l) l) (filter_alike q p p' f xs parts.1)

-- ---- rows

row_elsewhere : (p : Dot → Bool) (d : Dot) (xs : List (Dot × Row)) → p d ≡ false → list_all (λ x. p x.0) xs ≡ true → list_any (same_dot d) (dots_of xs) ≡ false
row_elsewhere p d [] e h = refl
row_elsewhere p d (x ∷ xs) e h =
    let parts = both (p x.0) (list_all (λ y. p y.0) xs) h in
    ap (λ b. b || list_any (same_dot d) (dots_of xs)) (differs (same_dot d x.0) (λ same. true≢false (sym parts.0 ∙ ap p (sym (dots_equal d x.0 same)) ∙ e)))
    ∙ row_elsewhere p d xs e parts.1
  where
    differs : (b : Bool) → (b ≡ true → ⊥) → b ≡ false
    differs true f = absurd (f refl)
    differs false f = refl

still_absent : (keep : Dot × Row → Bool) (d : Dot) (xs ys : List (Dot × Row)) → list_any (same_dot d) (dots_of xs) ≡ false → list_any (same_dot d) (dots_of ys) ≡ false → list_any (same_dot d) (dots_of (filter keep xs ++ ys)) ≡ false
still_absent keep d [] ys f g = g
still_absent keep d (x ∷ xs) ys f g =
    let parts = neither (same_dot d x.0) (list_any (same_dot d) (dots_of xs)) f in
    elim (keep x) as (λ b. list_any (same_dot d) (dots_of (cond b (x ∷ filter keep xs) (filter keep xs) ++ ys)) ≡ false) [
      | true ↦ ap (λ b. b || list_any (same_dot d) (dots_of (filter keep xs ++ ys))) parts.0 ∙ still_absent keep d xs ys parts.1 g
      | false ↦ still_absent keep d xs ys parts.1 g
    ]
  where
    neither : (a b : Bool) → (a || b) ≡ false → (a ≡ false) × (b ≡ false)
    neither true b e = absurd (cc)
    neither false b e = (refl, e)

-- the rows that are left of some, before others at other dots, stand once
stand_once : (keep : Dot × Row → Bool) (p : Dot → Bool) (xs ys : List (Dot × Row)) → has_repeat same_dot (dots_of xs) ≡ false → has_repeat same_dot (dots_of ys) ≡ false
    → list_all (λ x. not (p x.0)) xs ≡ true → list_all (λ y. p y.0) ys ≡ true → has_repeat same_dot (dots_of (filter keep xs ++ ys)) ≡ false
stand_once keep p [] ys f g h k = g
stand_once keep p (x ∷ xs) ys f g h k =
    let parts = neither (list_any (same_dot x.0) (dots_of xs)) (has_repeat same_dot (dots_of xs)) f in
    let outside = both (not (p x.0)) (list_all (λ y. not (p y.0)) xs) h in
    let rest = stand_once keep p xs ys parts.1 g outside.1 k in
    elim (keep x) as (λ b. has_repeat same_dot (dots_of (cond b (x ∷ filter keep xs) (filter keep xs) ++ ys)) ≡ false) [
      | true ↦ ap (λ b. b || has_repeat same_dot (dots_of (filter keep xs ++ ys))) (still_absent keep x.0 xs ys parts.0 (row_elsewhere p x.0 ys (negated (p x.0) outside.0) k)) ∙ rest
      | false ↦ rest
    ]
  where
    neither : (a b : Bool) → (a || b) ≡ false → (a ≡ false) × (b ≡ false)
    neither true b e = absurd (cc)
    neither false b e = (refl, e)

    negated : (b : Bool) → not b ≡ true → b ≡ false
    negated true e = absurd (cc)
    negated false e = refl

-- ---- two deltas, the second of which goes on from the first

module _ (a b : DeltaValue) (ha : IsDelta a) (hb : IsDelta b) (next : GoesOn a.owner a.to b) where
  -- the next range has no dot of the first
  pub apart : (d : Dot) → has a d ≡ true → has b d ≡ false
  apart d h = ap (λ x. same_replica d.replica b.owner && (x && nat_le d.count b.to)) (above_end d.count a.from b.from a.to (same_replica d.replica a.owner) next.begins h) ∙ none (same_replica d.replica b.owner)
    where
      none : (s : Bool) → (s && false) ≡ false
      none true = refl
      none false = refl

  only_older : (d : Dot) → has a d ≡ true → (same_replica d.replica a.owner && holds b.older d.count) ≡ covers (telling b) d
  only_older d h =
      ap (λ r. same_replica d.replica r && holds b.older d.count) (sym next.owned)
      ∙ sym (older_has b d)
      ∙ ap (λ x. (x || false) || list_any (same_dot d) (older_dots b)) (sym (apart d h))

  pub left_rows : filter (λ x. not (same_replica x.0.replica a.owner && holds b.older x.0.count)) a.live ≡ not_covered (telling b) a.live
  left_rows = filter_alike (λ x. has a x.0) (λ x. not (same_replica x.0.replica a.owner && holds b.older x.0.count)) (λ x. not (covers (telling b) x.0)) (λ x h. ap not (only_older x.0 h)) a.live ha.within

  from_le : a.from ≤ b.to
  from_le =
      let first : a.from ≤ a.to = ha.forward in
      let second : b.from ≤ b.to = hb.forward in
      let mid : b.from ≡ a.to = next.begins in
      omega arith

  to_le : a.to ≤ b.to
  to_le =
      let second : b.from ≤ b.to = hb.forward in
      let mid : b.from ≡ a.to = next.begins in
      omega arith

  first_in : (d : Dot) → has a d ≡ true → has (joined a b) d ≡ true
  unfolding joined
  first_in d h =
      let parts = both (same_replica d.replica a.owner) (nat_lt a.from d.count && nat_le d.count a.to) h in
      and_both (same_replica d.replica a.owner) (nat_lt a.from d.count && nat_le d.count b.to) parts.0 (wider d.count a.from a.from a.to b.to (omega arith) to_le parts.1)

  second_in : (d : Dot) → has b d ≡ true → has (joined a b) d ≡ true
  unfolding joined
  second_in d h =
      let parts = both (same_replica d.replica b.owner) (nat_lt b.from d.count && nat_le d.count b.to) h in
      let low : a.from ≤ b.from = subst (λ n. a.from ≤ n) (sym next.begins) ha.forward in
      and_both (same_replica d.replica a.owner) (nat_lt a.from d.count && nat_le d.count b.to)
      (ap (same_replica d.replica) (sym next.owned) ∙ parts.0)
      (wider d.count b.from a.from b.to b.to low (omega arith) parts.1)

  rows_within : list_all (λ x. has (joined a b) x.0) (joined a b).live ≡ true
  unfolding joined
  rows_within =
      list_all-append (λ x. has (joined a b) x.0) (not_covered (telling b) a.live) b.live
      ∙ and_both (list_all (λ x. has (joined a b) x.0) (not_covered (telling b) a.live)) (list_all (λ x. has (joined a b) x.0) b.live)
      (all_filter (λ x. not (covers (telling b) x.0)) (λ x. has (joined a b) x.0) a.live (all_at (λ x. has a x.0) (λ x. has (joined a b) x.0) (λ x. first_in x.0) a.live ha.within))
      (all_at (λ x. has b x.0) (λ x. has (joined a b) x.0) (λ x. second_in x.0) b.live hb.within)

  long_older : AreLong (a.older ++ b.older)
  long_older = long_append a.older b.older (long_runs 0 a.older ha.runs) (long_runs 0 b.older hb.runs)

  pub long_cut : AreLong (up_to a.from (a.older ++ b.older))
  long_cut = long_up_to a.from (a.older ++ b.older) long_older

  held : (n : ℕ) → holds (joined a b).older n ≡ (nat_le n a.from && (holds a.older n || holds b.older n))
  unfolding joined
  held n =
      holds_longest (up_to a.from (a.older ++ b.older)) n long_cut
      ∙ holds_up_to a.from n (a.older ++ b.older)
      ∙ ap (λ x. nat_le n a.from && x) (list_any-append (λ r. in_run r n) a.older b.older)

  regroup : (s l x y : Bool) → (s && (l && (x || y))) ≡ (l && ((s && x) || (s && y)))
  regroup true l x y = refl
  regroup false true x y = refl
  regroup false false x y = refl

  -- an older dot of the joined delta is one of either, at or below its start
  pub older_of : (q : Dot) → list_any (same_dot q) (older_dots (joined a b)) ≡ (nat_le q.count a.from && (list_any (same_dot q) (older_dots a) || list_any (same_dot q) (older_dots b)))
  unfolding joined
  older_of q =
      older_has (joined a b) q
      ∙ ap (λ x. same_replica q.replica a.owner && x) (held q.count)
      ∙ regroup (same_replica q.replica a.owner) (nat_le q.count a.from) (holds a.older q.count) (holds b.older q.count)
      ∙ ap (λ x. nat_le q.count a.from && (x || (same_replica q.replica a.owner && holds b.older q.count))) (sym (older_has a q))
      ∙ ap (λ r. nat_le q.count a.from && (list_any (same_dot q) (older_dots a) || (same_replica q.replica r && holds b.older q.count))) (sym next.owned)
      ∙ ap (λ x. nat_le q.count a.from && (list_any (same_dot q) (older_dots a) || x)) (sym (older_has b q))

  rows_limited : list_all (λ x. is_dot x.0 && is_row x.1) (joined a b).live ≡ true
  unfolding joined
  rows_limited =
      list_all-append (λ (x : Dot × Row). is_dot x.0 && is_row x.1) (not_covered (telling b) a.live) b.live
      ∙ and_both (list_all (λ (x : Dot × Row). is_dot x.0 && is_row x.1) (not_covered (telling b) a.live)) (list_all (λ (x : Dot × Row). is_dot x.0 && is_row x.1) b.live)
      (all_filter (λ x. not (covers (telling b) x.0)) (λ x. is_dot x.0 && is_row x.1) a.live ha.rows) hb.rows

  rows_once : has_repeat same_dot (dots_of (joined a b).live) ≡ false
  unfolding joined
  rows_once = stand_once (λ x. not (covers (telling b) x.0)) (has b) a.live b.live ha.once hb.once
      (all_at (λ x. has a x.0) (λ x. not (has b x.0)) (λ x h. ap not (apart x.0 h)) a.live ha.within) hb.within

  range_limited : is_range (a.owner, a.from, b.to) ≡ true
  range_limited =
      let named = both (is_count a.owner.incarnation) (nat_le a.from (2 ^ 62) && nat_le a.to (2 ^ 62)) ha.range in
      let ended = both (is_count b.owner.incarnation) (nat_le b.from (2 ^ 62) && nat_le b.to (2 ^ 62)) hb.range in
      and_both (is_count a.owner.incarnation) (nat_le a.from (2 ^ 62) && nat_le b.to (2 ^ 62)) named.0
      (and_both (nat_le a.from (2 ^ 62)) (nat_le b.to (2 ^ 62)) ((both (nat_le a.from (2 ^ 62)) (nat_le a.to (2 ^ 62)) named.1).0) ((both (nat_le b.from (2 ^ 62)) (nat_le b.to (2 ^ 62)) ended.1).1))

  pub joined_keeps : IsDelta (joined a b)
  unfolding joined
  joined_keeps = record {
    range = range_limited;
    forward = from_le;
    runs = longest_runs (up_to a.from (a.older ++ b.older)) long_cut;
    below = ends_longest a.from (up_to a.from (a.older ++ b.older)) (ends_up_to a.from (a.older ++ b.older));
    rows = rows_limited;
    within = rows_within;
    once = rows_once;
  }
