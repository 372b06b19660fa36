-- A delta up to a count.
use Rattle.std.proofs.Common.{◌≡◌, ℕ, ◌<◌, ◌≤◌, min, max, Bool, true, false, cond, ◌&&◌, ◌||◌, nat_lt, nat_le, List, [], ◌∷◌, Option, Some, None, refl, sym, ◌∙◌, ap, subst, arith, leb-true, le-leb}
use Rattle.std.specs.List.{filter, list_any, list_all}
use Rattle.std.specs.List.Sorted.{IsStrictlySortedBy}
use Rattle.std.specs.Map.{lookup, keys_of}
use Rattle.std.proofs.lemmas.Bool.{and_from, and_parts, or_parts}
use Rattle.std.proofs.lemmas.Bool.Decides.{nat_tests}
use Rattle.std.proofs.lemmas.List.Kept.{IsStrictlySortedBy-filter}
use Rattle.std.proofs.lemmas.Map.Entries.{lookup-filter-keys}
use Rattle.presence_base.specs.declared.dots.TheConstants.{MAX_COUNT}
use Rattle.presence_base.specs.declared.dots.Replica.{Replica}
use Rattle.presence_base.specs.declared.dots.Dot.{Dot}
use Rattle.presence_base.specs.declared.row.Row.{Row}
use Rattle.presence_base.specs.Order.{dot_cmp, same_dot, same_replica}
use Rattle.dot_context.specs.Sets.{in_range}
use Rattle.orswot_core.specs.Limits.{is_count, is_dot, is_row}
use Rattle.orswot_core.specs.Checks.{has_repeat, dots_of}
use Rattle.orswot_core.proofs.OrderFacts.{dots_equal}
use Rattle.delta_range.specs.Deltas.{DeltaValue, IsDelta}
use Rattle.presence_journal.specs.History.{History, own, live}
use Rattle.presence_journal_cuts.specs.ToldParts.{IsPart}
use Rattle.presence_journal_cuts.specs.Parting.{is_up_to, up_to, PartsCutShort}

-- ---- rows that pass a test

module _ (p : Dot → Bool) where
  abbrev kept : List (Dot × Row) → List (Dot × Row)
  kept xs = filter (λ x. p x.0) xs

  absent_still : (d : Dot) (xs : List (Dot × Row)) → list_any (same_dot d) (dots_of xs) ≡ false → list_any (same_dot d) (dots_of (kept xs)) ≡ false
  absent_still d [] none = refl
  absent_still d (x ∷ xs) none =
      let parts = or_parts (same_dot d x.0) (list_any (same_dot d) (dots_of xs)) none in
      go (p x.0) parts.0 (absent_still d xs parts.1)
    where
      go : (b : Bool) → same_dot d x.0 ≡ false → list_any (same_dot d) (dots_of (kept xs)) ≡ false → list_any (same_dot d) (dots_of (cond b (x ∷ kept xs) (kept xs))) ≡ false
      go true other rest = ap (λ c. c || list_any (same_dot d) (dots_of (kept xs))) other ∙ rest
      go false other rest = rest

  once_still : (xs : List (Dot × Row)) → has_repeat same_dot (dots_of xs) ≡ false → has_repeat same_dot (dots_of (kept xs)) ≡ false
  once_still [] once = refl
  once_still (x ∷ xs) once =
      let parts = or_parts (list_any (same_dot x.0) (dots_of xs)) (has_repeat same_dot (dots_of xs)) once in
      go (p x.0) (absent_still x.0 xs parts.0) (once_still xs parts.1)
    where
      go : (b : Bool) → list_any (same_dot x.0) (dots_of (kept xs)) ≡ false → has_repeat same_dot (dots_of (kept xs)) ≡ false → has_repeat same_dot (dots_of (cond b (x ∷ kept xs) (kept xs))) ≡ false
      go true none rest = ap (λ b. b || has_repeat same_dot (dots_of (kept xs))) none ∙ rest
      go false none rest = rest

  -- what is true of all is true of those
  all_still : (q r : Dot × Row → Bool) → ((x : Dot × Row) → p x.0 ≡ true → q x ≡ true → r x ≡ true) → (xs : List (Dot × Row)) → list_all q xs ≡ true → list_all r (kept xs) ≡ true
  all_still q r f [] h = refl
  all_still q r f (x ∷ xs) h =
      let parts = and_parts (q x) (list_all q xs) h in
      go (p x.0) refl parts.0 (all_still q r f xs parts.1)
    where
      go : (b : Bool) → p x.0 ≡ b → q x ≡ true → list_all r (kept xs) ≡ true → list_all r (cond b (x ∷ kept xs) (kept xs)) ≡ true
      go true e h rest = and_from (r x) (list_all r (kept xs)) (f x e h) rest
      go false e h rest = rest

  pub keys_kept : (es : List (Dot × Row)) → filter p (keys_of es) ≡ keys_of (kept es)
  keys_kept [] = refl
  keys_kept (e ∷ es) = go (p e.0) (keys_kept es)
    where
      go : (b : Bool) → filter p (keys_of es) ≡ keys_of (kept es) → cond b (e.0 ∷ filter p (keys_of es)) (filter p (keys_of es)) ≡ keys_of (cond b (e ∷ kept es) (kept es))
      go true ih = ap (λ ks. e.0 ∷ ks) ih
      go false ih = ih

-- ---- a delta that is cut short

end_low : (from m to : ℕ) → from ≤ max from (min m to)
end_low from m to = omega arith

end_high : (from m to : ℕ) → from ≤ to → max from (min m to) ≤ to
end_high from m to le = omega (arith, le)

within_end : (from m to c : ℕ) → nat_le c m ≡ true → (nat_lt from c && nat_le c to) ≡ true → (nat_lt from c && nat_le c (max from (min m to))) ≡ true
within_end from m to c low e = grind (arith, nat_tests, low, e)

same_range : (from m to c : ℕ) (r : Bool) → (nat_le c m && (r && (nat_lt from c && nat_le c to))) ≡ (r && (nat_lt from c && nat_le c (max from (min m to))))
same_range from m to c true = grind (arith, nat_tests)
same_range from m to c false = off (nat_le c m)
  where
    off : (b : Bool) → (b && false) ≡ false
    off true = refl
    off false = refl

pub short_sound : (m : ℕ) (d : DeltaValue) → IsDelta d → IsDelta (up_to m d)
short_sound m d delta =
    let outer = and_parts (is_count d.owner.incarnation) (nat_le d.from MAX_COUNT && nat_le d.to MAX_COUNT) delta.range in
    let ends = and_parts (nat_le d.from MAX_COUNT) (nat_le d.to MAX_COUNT) outer.1 in
    record {
      range = and_from (is_count d.owner.incarnation) (nat_le d.from MAX_COUNT && nat_le (max d.from (min m d.to)) MAX_COUNT) outer.0
          (and_from (nat_le d.from MAX_COUNT) (nat_le (max d.from (min m d.to)) MAX_COUNT) ends.0
          (le-leb (max d.from (min m d.to)) MAX_COUNT (omega (arith, end_high d.from m d.to delta.forward, leb-true d.to MAX_COUNT ends.1))));
      forward = end_low d.from m d.to;
      runs = delta.runs;
      below = delta.below;
      rows = all_still (is_up_to m) (λ x. is_dot x.0 && is_row x.1) (λ x. is_dot x.0 && is_row x.1) (λ x p h. h) d.live delta.rows;
      within = all_still (is_up_to m) (λ x. in_range d.owner d.from d.to x.0) (λ x. in_range d.owner d.from (max d.from (min m d.to)) x.0) (λ x low h.
          let parts = and_parts (same_replica x.0.replica d.owner) (nat_lt d.from x.0.count && nat_le x.0.count d.to) h in
          and_from (same_replica x.0.replica d.owner) (nat_lt d.from x.0.count && nat_le x.0.count (max d.from (min m d.to))) parts.0
          (within_end d.from m d.to x.0.count low parts.1)) d.live delta.within;
      once = once_still (is_up_to m) d.live delta.once;
    }

-- as it is made
pub short_is : (m : ℕ) (d : DeltaValue) (owner : Replica) (from begin end least to : ℕ) (older : List (ℕ × ℕ)) (live : List (Dot × Row)) → owner ≡ d.owner → from ≡ d.from → begin ≡ d.from → end ≡ d.to → least ≡ min m end → to ≡ max begin least
    → older ≡ d.older → live ≡ filter (λ x. is_up_to m x.0) d.live → up_to m d ≡ record { owner = owner; from = from; to = to; older = older; live = live }
short_is m d owner from begin end least to older live o f b e l t rs xs =
    let ends : to ≡ max d.from (min m d.to) = t ∙ (λ i. max (b i) ((l ∙ ap (min m) e) i)) in
    λ i. record { owner = sym o i; from = sym f i; to = sym ends i; older = sym rs i; live = sym xs i }

pub parts_cut_short : PartsCutShort
parts_cut_short h n m d part delta = record {
  owner = part.owner;
  from = part.from;
  to = omega (arith, end_high d.from m d.to delta.forward, part.to);
  before = part.before;
  rows = λ x.
      lookup-filter-keys (same_dot x) (is_up_to m) (is_up_to m x) (λ k same. ap (is_up_to m) (sym (dots_equal x k same))) d.live
      ∙ (ap (λ o. cond (is_up_to m x) o None) (part.rows x)
      ∙ (both_tests (nat_le x.count m) (in_range (own h) d.from d.to x) (live h x)
      ∙ ap (λ b. cond b (live h x) None) (same_range d.from m d.to x.count (same_replica x.replica (own h)))));
  in_order = subst (IsStrictlySortedBy dot_cmp) (keys_kept (is_up_to m) d.live) (IsStrictlySortedBy-filter dot_cmp (is_up_to m) (keys_of d.live) part.in_order);
}
  where
    both_tests : (a b : Bool) (o : Option Row) → cond a (cond b o None) None ≡ cond (a && b) o None
    both_tests true b o = refl
    both_tests false b o = refl
