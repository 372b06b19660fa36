-- Ranges that lie apart in order are one list, where they have the same dots.
use Rattle.std.proofs.Common.{◌≡◌, ℕ, ◌<◌, ◌≤◌, suc, Bool, true, false, ◌&&◌, ◌||◌, nat_lt, nat_le, List, [], ◌∷◌, arith, refl, sym, ◌∙◌, ap, subst, inl, inr, true≢false, Ordering}
use Rattle.std.proofs.lemmas.Bool.{cases_lt}
use Rattle.std.proofs.lemmas.Bool.Decides.{nat_tests}
use Rattle.std.specs.List.{list_any, list_all}
use Rattle.std.specs.Ordering.{is_eq, is_lt, ordering_reverse}
use Rattle.std.specs.declared.cmp.Ordering.TheVariants.{Less, Equal, Greater}
use Rattle.presence_base.specs.declared.dots.Replica.{Replica}
use Rattle.presence_base.specs.declared.dots.Dot.{Dot}
use Rattle.presence_base.specs.Order.{replica_cmp, same_replica}
use Rattle.dot_context.proofs.SetFacts.{and_false}
use Rattle.orswot_core.specs.Telling.{Range, range_has}
use Rattle.orswot_core.specs.Full.{dot_of, is_some, is_apart, are_apart_from, are_apart}
use Rattle.orswot_core.proofs.OrderFacts.{replica_total, replica_antisymmetric, replicas_equal}
use Rattle.orswot_core.proofs.RunFacts.{and_parts, and_from}
use Rattle.orswot_core.proofs.RunRangeFacts.{same_self, last_within}

-- what the order of two replicas that lie next to each other is
abbrev Next : Ordering → Range → Range → Type 0
Next Less g k = Unit {0}
Next Equal g k = nat_lt g.2 k.1 ≡ true
Next Greater g k = ⊥

next_is : (g k : Range) (o : Ordering) → replica_cmp g.0 k.0 ≡ o → is_apart g k ≡ true → Next o g k
next_is g k Less e h = tt
next_is g k Equal e h = sym (ap (λ o. is_lt o || (is_eq o && nat_lt g.2 k.1)) e) ∙ h
next_is g k Greater e h = absurd (true≢false (sym h ∙ ap (λ o. is_lt o || (is_eq o && nat_lt g.2 k.1)) e))

before_replica : (d : Dot) (g : Range) → replica_cmp d.replica g.0 ≡ Less → range_has d g ≡ false
before_replica d g less = ap (λ o. is_eq o && (nat_lt g.1 d.count && nat_le d.count g.2)) less

-- a dot of an earlier replica than a range is in none that lies behind it
none_of_later : (d : Dot) (g : Range) (gs : List Range) → replica_cmp d.replica g.0 ≡ Less → are_apart_from g gs ≡ true → list_any (range_has d) gs ≡ false
none_of_later d g [] less h = refl
none_of_later d g (k ∷ ks) less h =
    let parts = and_parts (is_apart g k) (are_apart_from k ks) h in
    let before : replica_cmp d.replica k.0 ≡ Less = through (replica_cmp g.0 k.0) refl (next_is g k (replica_cmp g.0 k.0) refl parts.0) in
    ap (λ b. b || list_any (range_has d) ks) (before_replica d k before) ∙ none_of_later d k ks before parts.1
  where
    through : (o : Ordering) → replica_cmp g.0 k.0 ≡ o → Next o g k → replica_cmp d.replica k.0 ≡ Less
    through Less e n = replica_total.trans d.replica g.0 k.0 less e
    through Equal e n = ap (replica_cmp d.replica) (sym (replica_antisymmetric g.0 k.0 e)) ∙ less
    through Greater e n = absurd n

-- nor is a dot of the same replica up to the count behind its end
none_behind : (d : Dot) (g : Range) (gs : List Range) → d.replica ≡ g.0 → d.count ≤ suc g.2 → list_all is_some gs ≡ true → are_apart_from g gs ≡ true → list_any (range_has d) gs ≡ false
none_behind d g [] same le some h = refl
none_behind d g (k ∷ ks) same le some h =
    let parts = and_parts (is_apart g k) (are_apart_from k ks) h in
    let somes = and_parts (is_some k) (list_all is_some ks) some in
    by (replica_cmp g.0 k.0) refl (next_is g k (replica_cmp g.0 k.0) refl parts.0) parts.1 (λ owned within. none_behind d k ks owned within somes.1 parts.1)
  where
    not_yet : (from to next count : ℕ) → nat_lt to from ≡ true → count ≤ suc to → nat_lt from next ≡ true → (nat_lt from count ≡ false) × (count ≤ suc next)
    not_yet from to next count h le up = (grind (arith, nat_tests), grind (arith, nat_tests))

    by : (o : Ordering) → replica_cmp g.0 k.0 ≡ o → Next o g k → are_apart_from k ks ≡ true → (d.replica ≡ k.0 → d.count ≤ suc k.2 → list_any (range_has d) ks ≡ false)
        → list_any (range_has d) (k ∷ ks) ≡ false
    by Less e n apart rest =
        let before : replica_cmp d.replica k.0 ≡ Less = ap (λ r. replica_cmp r k.0) same ∙ e in
        ap (λ b. b || list_any (range_has d) ks) (before_replica d k before) ∙ none_of_later d k ks before apart
    by Equal e n apart rest =
        let later = not_yet k.1 g.2 k.2 d.count n le (and_parts (is_some k) (list_all is_some ks) some).0 in
        let out : range_has d k ≡ false = ap (λ b. same_replica d.replica k.0 && (b && nat_le d.count k.2)) later.0 ∙ sym (and_false (same_replica d.replica k.0)) in
        ap (λ b. b || list_any (range_has d) ks) out ∙ rest (same ∙ replica_antisymmetric g.0 k.0 e) later.1
    by Greater e n apart rest = absurd n

-- two lists of ranges, each with a first one
record Both (g h : Range) (gs hs : List Range) : Type 0 where
  pub some : list_all is_some (g ∷ gs) ≡ true
  pub other_some : list_all is_some (h ∷ hs) ≡ true
  pub apart : are_apart_from g gs ≡ true
  pub other_apart : are_apart_from h hs ≡ true
  pub same : (d : Dot) → list_any (range_has d) (g ∷ gs) ≡ list_any (range_has d) (h ∷ hs)

turned : (g h : Range) (gs hs : List Range) → Both g h gs hs → Both h g hs gs
turned g h gs hs b = record { some = b.other_some; other_some = b.some; apart = b.other_apart; other_apart = b.apart; same = λ d. sym (b.same d) }

-- the first range of one has a dot that the other hasn't
abbrev OnlyFirst : Range → Range → List Range → Dot → Type 0
OnlyFirst g h hs d = (range_has d g ≡ true) × (range_has d h ≡ false) × (list_any (range_has d) hs ≡ false)

differ : (g h : Range) (gs hs : List Range) (d : Dot) → Both g h gs hs → OnlyFirst g h hs d → ⊥
differ g h gs hs d b only = true≢false (
    sym (ap (λ x. x || list_any (range_has d) gs) only.0) ∙ b.same d
    ∙ ap (λ x. x || list_any (range_has d) hs) only.1 ∙ only.2)

not_earlier : (g h : Range) (gs hs : List Range) → Both g h gs hs → replica_cmp g.0 h.0 ≡ Less → ⊥
not_earlier g h gs hs b less =
    let d = dot_of g.0 g.2 in
    differ g h gs hs d b (last_within g (and_parts (is_some g) (list_all is_some gs) b.some).0, before_replica d h less, none_of_later d h hs less b.other_apart)

same_owner : (g h : Range) (gs hs : List Range) → Both g h gs hs → g.0 ≡ h.0
same_owner g h gs hs b = by (replica_cmp g.0 h.0) refl
  where
    by : (o : Ordering) → replica_cmp g.0 h.0 ≡ o → g.0 ≡ h.0
    by Less e = absurd (not_earlier g h gs hs b e)
    by Equal e = replica_antisymmetric g.0 h.0 e
    by Greater e = absurd (not_earlier h g hs gs (turned g h gs hs b) (replica_total.antisymm h.0 g.0 ∙ ap ordering_reverse e))

in_own : (r : Replica) (from to count : ℕ) → from < count → count ≤ to → range_has (dot_of r count) (r, from, to) ≡ true
in_own r from to count lt le = and_from (same_replica r r) (nat_lt from count && nat_le count to) (same_self r) (and_from (nat_lt from count) (nat_le count to) (grind (arith, nat_tests)) (grind (arith, nat_tests)))

not_below : (r : Replica) (from to count : ℕ) → count ≤ from → range_has (dot_of r count) (r, from, to) ≡ false
not_below r from to count le =
    let low : nat_lt from count ≡ false = grind (arith, nat_tests) in
    ap (λ b. same_replica r r && (b && nat_le count to)) low ∙ sym (and_false (same_replica r r))

not_above : (r : Replica) (from to count : ℕ) → to < count → range_has (dot_of r count) (r, from, to) ≡ false
not_above r from to count lt =
    let high : (nat_lt from count && nat_le count to) ≡ false = grind (arith, nat_tests) in
    ap (λ b. same_replica r r && b) high ∙ sym (and_false (same_replica r r))

up : (g : Range) → is_some g ≡ true → g.1 < g.2
up g some = grind (arith, nat_tests)

first_some : (g : Range) (gs : List Range) → list_all is_some (g ∷ gs) ≡ true → g.1 < g.2
first_some g gs some = up g (and_parts (is_some g) (list_all is_some gs) some).0

later_some : (g : Range) (gs : List Range) → list_all is_some (g ∷ gs) ≡ true → list_all is_some gs ≡ true
later_some g gs some = (and_parts (is_some g) (list_all is_some gs) some).1

-- of one replica, neither begins before the other, and neither ends behind it
not_before : (r : Replica) (x y : ℕ × ℕ) (gs hs : List Range) → Both (r, x.0, x.1) (r, y.0, y.1) gs hs → y.0 ≤ x.0
not_before r x y gs hs b = elim (cases_lt x.0 y.0) [
  | inl lt ↦
      let g : Range = (r, x.0, x.1) in
      let h : Range = (r, y.0, y.1) in
      let first = first_some g gs b.some in
      let other = first_some h hs b.other_some in
      absurd (differ g h gs hs (dot_of r (suc x.0)) b (
        in_own r x.0 x.1 (suc x.0) (omega arith) (omega (arith, first)),
        not_below r y.0 y.1 (suc x.0) (omega arith),
        none_behind (dot_of r (suc x.0)) h hs refl (omega (arith, other)) (later_some h hs b.other_some) b.other_apart,
      ))
  | inr le ↦ le
]

not_longer : (r : Replica) (x y : ℕ × ℕ) (gs hs : List Range) → Both (r, x.0, x.1) (r, y.0, y.1) gs hs → x.0 ≡ y.0 → y.1 ≤ x.1
not_longer r x y gs hs b same = elim (cases_lt x.1 y.1) [
  | inl lt ↦
      let g : Range = (r, x.0, x.1) in
      let h : Range = (r, y.0, y.1) in
      let first = first_some g gs b.some in
      absurd (differ h g hs gs (dot_of r (suc x.1)) (turned g h gs hs b) (
        in_own r y.0 y.1 (suc x.1) (omega (arith, first)) (omega arith),
        not_above r x.0 x.1 (suc x.1) (omega arith),
        none_behind (dot_of r (suc x.1)) g gs refl (omega arith) (later_some g gs b.some) b.apart,
      ))
  | inr le ↦ le
]

same_ends : (r : Replica) (x y : ℕ × ℕ) (gs hs : List Range) → Both (r, x.0, x.1) (r, y.0, y.1) gs hs → x ≡ y
same_ends r x y gs hs b =
    let back = turned (r, x.0, x.1) (r, y.0, y.1) gs hs b in
    let from : x.0 ≡ y.0 = omega (arith, not_before r x y gs hs b, not_before r y x hs gs back) in
    let to : x.1 ≡ y.1 = omega (arith, not_longer r x y gs hs b from, not_longer r y x hs gs back (sym from)) in
    λ i. (from i, to i)

same_first : (g h : Range) (gs hs : List Range) → Both g h gs hs → g ≡ h
same_first g h gs hs b =
    let owner : g.0 ≡ h.0 = same_owner g h gs hs b in
    let here : Both (h.0, g.1, g.2) h gs hs = subst (λ (r : Replica). Both (r, g.1, g.2) h gs hs) owner b in
    let ends : (g.1, g.2) ≡ (h.1, h.2) = same_ends h.0 (g.1, g.2) (h.1, h.2) gs hs here in
    λ i. (owner i, (ends i).0, (ends i).1)

-- behind a first range that is the same the dots are the same
same_later : (g : Range) (gs hs : List Range) → Both g g gs hs → (d : Dot) → list_any (range_has d) gs ≡ list_any (range_has d) hs
same_later g gs hs b d = by (range_has d g) refl
  where
    within : range_has d g ≡ true → (d.replica ≡ g.0) × (d.count ≤ suc g.2)
    within has =
        let parts = and_parts (same_replica d.replica g.0) (nat_lt g.1 d.count && nat_le d.count g.2) has in
        (replicas_equal d.replica g.0 parts.0, at_most d.count g.2 (and_parts (nat_lt g.1 d.count) (nat_le d.count g.2) parts.1).1)
      where
        at_most : (m n : ℕ) → nat_le m n ≡ true → m ≤ suc n
        at_most m n le = grind (arith, nat_tests)

    by : (x : Bool) → range_has d g ≡ x → list_any (range_has d) gs ≡ list_any (range_has d) hs
    by true e =
        let place = within e in
        none_behind d g gs place.0 place.1 (later_some g gs b.some) b.apart ∙ sym (none_behind d g hs place.0 place.1 (later_some g hs b.other_some) b.other_apart)
    by false e = sym (ap (λ x. x || list_any (range_has d) gs) e) ∙ b.same d ∙ ap (λ x. x || list_any (range_has d) hs) e

rest_apart : (g : Range) (gs : List Range) → are_apart_from g gs ≡ true → are_apart gs ≡ true
rest_apart g [] h = refl
rest_apart g (k ∷ ks) h = (and_parts (is_apart g k) (are_apart_from k ks) h).1

no_dot : (h : Range) (hs : List Range) → list_all is_some (h ∷ hs) ≡ true → ((d : Dot) → list_any (range_has d) (h ∷ hs) ≡ false) → ⊥
no_dot h hs some none =
    let d = dot_of h.0 h.2 in
    true≢false (sym (ap (λ x. x || list_any (range_has d) hs) (last_within h (and_parts (is_some h) (list_all is_some hs) some).0)) ∙ none d)

pub same_ranges_apart : (gs hs : List Range) → list_all is_some gs ≡ true → list_all is_some hs ≡ true → are_apart gs ≡ true → are_apart hs ≡ true
    → ((d : Dot) → list_any (range_has d) gs ≡ list_any (range_has d) hs) → gs ≡ hs
same_ranges_apart [] [] some some' apart apart' same = refl
same_ranges_apart [] (h ∷ hs) some some' apart apart' same = absurd (no_dot h hs some' (λ d. sym (same d)))
same_ranges_apart (g ∷ gs) [] some some' apart apart' same = absurd (no_dot g gs some same)
same_ranges_apart (g ∷ gs) (h ∷ hs) some some' apart apart' same =
    let b : Both g h gs hs = record { some = some; other_some = some'; apart = apart; other_apart = apart'; same = same } in
    let first : g ≡ h = same_first g h gs hs b in
    let both : Both g g gs hs = subst (λ (k : Range). Both g k gs hs) (sym first) b in
    let rest : gs ≡ hs = same_ranges_apart gs hs (later_some g gs some) (later_some h hs some') (rest_apart g gs apart) (rest_apart h hs apart') (same_later g gs hs both) in
    λ i. first i ∷ rest i
