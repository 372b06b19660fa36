-- Deltas whose rows are in order of dot are joined to one whose rows are.
use Rattle.std.proofs.Common.{◌≡◌, ℕ, zero, suc, ◌+◌, ◌-◌, ◌<◌, ◌≤◌, refl, Bool, true, false, not, cond, ◌&&◌, nat_le, nat_lt, nat_eq, List, [], ◌∷◌, ◌++◌, sym, ◌∙◌, ap, arith}
use Rattle.std.proofs.lemmas.Bool.Decides.{nat_tests}
use Rattle.std.specs.Ordering.{nat_cmp, ordering_then}
use Rattle.std.specs.declared.cmp.Ordering.TheVariants.{Less, Equal, Greater}
use Rattle.std.specs.Cmp.{tied_itself}
use Rattle.std.specs.List.{list_all, filter, AllByRecursion}
use Rattle.std.specs.List.Sorted.{IsStrictlySortedBy}
use Rattle.presence_base.specs.declared.dots.Replica.{Replica}
use Rattle.presence_base.specs.declared.dots.Dot.{Dot}
use Rattle.presence_base.specs.declared.row.Row.{Row}
use Rattle.presence_base.specs.Order.{dot_cmp, replica_cmp, same_replica}
use Rattle.dot_context.specs.Runs.{AreRuns}
use Rattle.dot_context.specs.Sets.{span, run_dots}
use Rattle.orswot_core.specs.Telling.{covers}
use Rattle.orswot_core.specs.Checks.{dots_of}
use Rattle.orswot_core.proofs.OrderFacts.{replica_total, replicas_equal}
use Rattle.delta_range.specs.Deltas.{DeltaValue, telling, GoesOn}
use Rattle.delta_range.specs.Joining.{joined}
use Rattle.delta_range.specs.Laws.{StaysInOrder, OlderInOrder}
use Rattle.delta_range.proofs.BoolFacts.{both}
use Rattle.delta_range.proofs.JoinFacts.{has}

abbrev Ascend : List Dot → Type 0
Ascend = IsStrictlySortedBy dot_cmp

abbrev AllAbove : Dot → List Dot → Type 0
AllAbove d ds = AllByRecursion (λ e. dot_cmp d e ≡ Less) ds

above_all : (p : Dot → Bool) (d : Dot) (xs : List (Dot × Row)) → ((e : Dot) → p e ≡ true → dot_cmp d e ≡ Less) → list_all (λ x. p x.0) xs ≡ true → AllAbove d (dots_of xs)
above_all p d [] f h = tt
above_all p d (x ∷ xs) f h = let parts = both (p x.0) (list_all (λ y. p y.0) xs) h in (f x.0 parts.0, above_all p d xs f parts.1)

above_left : (keep : Dot × Row → Bool) (d : Dot) (xs ys : List (Dot × Row)) → AllAbove d (dots_of xs) → AllAbove d (dots_of ys) → AllAbove d (dots_of (filter keep xs ++ ys))
above_left keep d [] ys f g = g
above_left keep d (x ∷ xs) ys f g =
    elim (keep x) as (λ b. AllAbove d (dots_of (cond b (x ∷ filter keep xs) (filter keep xs) ++ ys))) [
      | true ↦ (f.0, above_left keep d xs ys f.1 g)
      | false ↦ above_left keep d xs ys f.1 g
    ]

-- what is left of rows in order, before others in order at higher dots, is in order
left_ascend : (keep : Dot × Row → Bool) (p q : Dot → Bool) (xs ys : List (Dot × Row)) → ((d e : Dot) → p d ≡ true → q e ≡ true → dot_cmp d e ≡ Less)
    → list_all (λ x. p x.0) xs ≡ true → list_all (λ y. q y.0) ys ≡ true → Ascend (dots_of xs) → Ascend (dots_of ys) → Ascend (dots_of (filter keep xs ++ ys))
unfolding IsStrictlySortedBy
left_ascend keep p q [] ys f h k s t = t
left_ascend keep p q (x ∷ xs) ys f h k s t =
    let parts = both (p x.0) (list_all (λ y. p y.0) xs) h in
    let rest = left_ascend keep p q xs ys f parts.1 k s.1 t in
    elim (keep x) as (λ b. Ascend (dots_of (cond b (x ∷ filter keep xs) (filter keep xs) ++ ys))) [
      | true ↦ (above_left keep x.0 xs ys s.0 (above_all q x.0 ys (λ e here. f x.0 e parts.0 here) k), rest)
      | false ↦ rest
    ]

counted_below : (m n : ℕ) → m < n → nat_cmp m n ≡ Less
counted_below m n lt = ap (λ b. cond b Less (cond (nat_eq m n) Equal Greater)) (tests m n lt)
  where
    tests : (m n : ℕ) → m < n → nat_lt m n ≡ true
    tests m n lt = grind (arith, nat_tests)

lower : (d e : Dot) → d.replica ≡ e.replica → d.count < e.count → dot_cmp d e ≡ Less
lower d e same lt =
    ap (λ r. ordering_then (replica_cmp r e.replica) (nat_cmp d.count e.count)) same
    ∙ ap (λ o. ordering_then o (nat_cmp d.count e.count)) (tied_itself replica_total e.replica)
    ∙ counted_below d.count e.count lt

ranges_ascend : (a b : DeltaValue) → GoesOn a.owner a.to b → (d e : Dot) → has a d ≡ true → has b e ≡ true → dot_cmp d e ≡ Less
ranges_ascend a b next d e first second =
    let one = both (same_replica d.replica a.owner) (nat_lt a.from d.count && nat_le d.count a.to) first in
    let two = both (same_replica e.replica b.owner) (nat_lt b.from e.count && nat_le e.count b.to) second in
    lower d e (replicas_equal d.replica a.owner one.0 ∙ sym next.owned ∙ sym (replicas_equal e.replica b.owner two.0))
    (between d.count e.count a.to b.from next.begins ((both (nat_lt a.from d.count) (nat_le d.count a.to) one.1).1) ((both (nat_lt b.from e.count) (nat_le e.count b.to) two.1).0))
  where
    between : (m n to from : ℕ) → from ≡ to → nat_le m to ≡ true → nat_lt from n ≡ true → m < n
    between m n to from e f g = grind (arith, nat_tests)

pub stays_in_order : StaysInOrder
unfolding joined
stays_in_order a b ha hb next oa ob = left_ascend (λ x. not (covers (telling b) x.0)) (has a) (has b) a.live b.live (ranges_ascend a b next) ha.within hb.within oa ob

-- ---- older dots

abbrev at : Replica → ℕ → Dot
at r n = record { replica = r; count = n }

above_append : (d : Dot) (xs ys : List Dot) → AllAbove d xs → AllAbove d ys → AllAbove d (xs ++ ys)
above_append d [] ys f g = g
above_append d (x ∷ xs) ys f g = (f.0, above_append d xs ys f.1 g)

span_above : (r : Replica) (n from k : ℕ) → n ≤ from → AllAbove (at r n) (span r from k)
span_above r n from zero le = tt
span_above r n from (suc k) le = (lower (at r n) (at r (suc from)) refl (omega arith), span_above r n (suc from) k (omega arith))

span_then : (r : Replica) (from k : ℕ) (ys : List Dot) → ((n : ℕ) → n ≤ from + k → AllAbove (at r n) ys) → Ascend ys → Ascend (span r from k ++ ys)
unfolding IsStrictlySortedBy
span_then r from zero ys f h = h
span_then r from (suc k) ys f h = (
  above_append (at r (suc from)) (span r (suc from) k) ys (span_above r (suc from) (suc from) k (omega arith)) (f (suc from) (omega arith)),
  span_then r (suc from) k ys (λ n le. f n (omega arith)) h,
)

runs_above : (r : Replica) (n low : ℕ) (rs : List (ℕ × ℕ)) → n ≤ low → AreRuns low rs → AllAbove (at r n) (run_dots r rs)
runs_above r n low [] le h = tt
runs_above r n low (x ∷ xs) le h =
    above_append (at r n) (span r x.0 (x.1 - x.0)) (run_dots r xs) (span_above r n x.0 (x.1 - x.0) (through n low x.0 le h.0)) (runs_above r n (suc x.1) xs (behind n low x.0 x.1 le h.0 h.1) h.2)
  where
    through : (a b c : ℕ) → a ≤ b → b ≤ c → a ≤ c
    through a b c p q = omega arith

    behind : (n low a b : ℕ) → n ≤ low → low ≤ a → a < b → n ≤ suc b
    behind n low a b p q s = omega arith

runs_ascend : (r : Replica) (low : ℕ) (rs : List (ℕ × ℕ)) → AreRuns low rs → Ascend (run_dots r rs)
unfolding IsStrictlySortedBy
runs_ascend r low [] h = tt
runs_ascend r low (x ∷ xs) h =
    span_then r x.0 (x.1 - x.0) (run_dots r xs) (λ n le. runs_above r n (suc x.1) xs (past n x.0 x.1 le h.1) h.2) (runs_ascend r (suc x.1) xs h.2)
  where
    past : (n a b : ℕ) → n ≤ a + (b - a) → a < b → n ≤ suc b
    past n a b p q = omega arith

pub older_in_order : OlderInOrder
older_in_order d h = runs_ascend d.owner 0 d.older h.runs
