-- A delta that takes in the next one in place becomes the joined delta.
use Rattle.std.proofs.Common.{◌≡◌, ℕ, ◌+◌, ◌≤◌, Bool, true, false, not, ◌&&◌, nat_le, List, [], ◌++◌, length, refl, sym, ◌∙◌, ap, subst, Option, Some, None, arith, length-append}
use Rattle.std.proofs.lemmas.Bool.Decides.{nat_tests}
use Rattle.std.proofs.lemmas.List.{append-nil}
use Rattle.std.specs.FinSet as set
use Rattle.std.proofs.lemmas.List.Elements.{filter_agree}
use Rattle.presence_base.specs.declared.dots.Replica.{Replica}
use Rattle.presence_base.specs.declared.dots.Dot.{Dot}
use Rattle.presence_base.specs.declared.row.Row.{Row}
use Rattle.presence_base.specs.Order.{same_replica}
use Rattle.dot_context.specs.Runs.{holds}
use Rattle.delta_range.specs.declared.growth.Removal.{Removal}
use Rattle.delta_range.specs.Deltas.{DeltaValue, telling, IsDelta, GoesOn}
use Rattle.delta_range.specs.Longest.{up_to, longest}
use Rattle.delta_range.specs.Joining.{not_covered, joined, HasRuns}
use Rattle.delta_range.specs.Growing.{growing, runs_with, rows_left, AreDeltas, IsRemoval}
use Rattle.delta_range.specs.Keeping.{size}
use Rattle.delta_range.proofs.JoinFacts.{left_rows, joined_keeps}
use Rattle.delta_range.proofs.ViewFacts.{length_left}
use Rattle.delta_range.proofs.NothingFacts.{all_stay, same_older}

-- a delta with no older runs takes nothing away
pub nothing_goes : (a b : DeltaValue) → IsDelta a → IsDelta b → GoesOn a.owner a.to b → b.older ≡ [] → IsRemoval None a b
nothing_goes a b ha hb next none = record {
  runs = sym (ap (λ rs. longest (up_to a.from rs)) (ap (λ rs. a.older ++ rs) none ∙ append-nil a.older) ∙ same_older a ha);
  rows = sym (all_stay (λ q. same_replica q.replica a.owner && holds b.older q.count) a.live (λ q. ap (λ rs. same_replica q.replica a.owner && holds rs q.count) none ∙ neither (same_replica q.replica a.owner)))
      ∙ left_rows a b ha hb next;
}
  where
    neither : (s : Bool) → (s && false) ≡ false
    neither true = refl
    neither false = refl

-- the joined runs and the dots of the next one's older runs are the removal
pub these_go : (a b : DeltaValue) → IsDelta a → IsDelta b → GoesOn a.owner a.to b → (r : Removal) (owner : Replica) (from : ℕ) (oa ob : List (ℕ × ℕ))
    → r.runs.items ≡ longest (up_to from (oa ++ ob)) → HasRuns r.dots owner ob → owner ≡ a.owner → from ≡ a.from → oa ≡ a.older → ob ≡ b.older → IsRemoval (Some r) a b
these_go a b ha hb next r owner from oa ob runs dots e-owner e-from e-oa e-ob =
    let gone : (q : Dot) → set.contains r.dots q ≡ (same_replica q.replica a.owner && holds b.older q.count) = λ q. dots q ∙ (λ i. same_replica q.replica (e-owner i) && holds (e-ob i) q.count) in
    record {
      runs = runs ∙ (λ i. longest (up_to (e-from i) (e-oa i ++ e-ob i)));
      rows = filter_agree (λ (x : Dot × Row). not (set.contains r.dots x.0)) (λ (x : Dot × Row). not (same_replica x.0.replica a.owner && holds b.older x.0.count)) (λ x. ap not (gone x.0)) a.live
          ∙ left_rows a b ha hb next;
    }

-- what is put together is the joined delta
pub grown_joined : (a b : DeltaValue) (r : Option Removal) (live rows : List (Dot × Row)) (to : ℕ) → IsRemoval r a b → live ≡ a.live → rows ≡ b.live → to ≡ b.to
    → ◌≡◌ {A = DeltaValue} (record { owner = a.owner; from = a.from; to = to; older = runs_with r a.older; live = rows_left r live ++ rows }) (joined a b)
unfolding joined
grown_joined a b r live rows to h e-live e-rows e-to =
    let left : rows_left r live ≡ not_covered (telling b) a.live = ap (rows_left r) e-live ∙ h.rows in
    λ i. record { owner = a.owner; from = a.from; to = e-to i; older = h.runs i; live = left i ++ e-rows i }

-- both are deltas
pub both_deltas : (a b : DeltaValue) (r : Option Removal) (live rows : List (Dot × Row)) (to : ℕ) → IsDelta a → IsDelta b → GoesOn a.owner a.to b → IsRemoval r a b → live ≡ a.live → rows ≡ b.live → to ≡ b.to
    → AreDeltas (growing (record { owner = a.owner; from = a.from; to = a.to; older = a.older; live = live }) r rows to)
both_deltas a b r live rows to ha hb next h e-live e-rows e-to = record {
  before = subst IsDelta (λ i. record { owner = a.owner; from = a.from; to = a.to; older = a.older; live = sym e-live i }) ha;
  after = subst IsDelta (sym (grown_joined a b r live rows to h e-live e-rows e-to)) (joined_keeps a b ha hb next);
}

-- ---- sizes

pub join_size : (a b : DeltaValue) (r : Option Removal) (n k m : ℕ) → IsRemoval r a b → n ≡ length (runs_with r a.older) → k ≡ length (rows_left r a.live) → m ≡ length b.live
    → n + (k + m) ≡ size (joined a b)
unfolding joined
join_size a b r n k m h e-n e-k e-m =
    (λ i. e-n i + (e-k i + e-m i))
    ∙ (λ i. length (h.runs i) + (length (h.rows i) + length b.live))
    ∙ ap (λ l. length (longest (up_to a.from (a.older ++ b.older))) + l) (sym (length-append (not_covered (telling b) a.live) b.live))

fewer : (r : Option Removal) (xs : List (Dot × Row)) → length (rows_left r xs) ≤ length xs
fewer None xs = omega arith
fewer (Some r) xs = length_left (λ x. not (set.contains r.dots x.0)) xs

-- where all rows are within a cap, those that are left are
pub still_within : (r : Option Removal) (xs : List (Dot × Row)) (n m cap : ℕ) → nat_le (n + (length xs + m)) cap ≡ true → nat_le (n + (length (rows_left r xs) + m)) cap ≡ true
still_within r xs n m cap h = less (length (rows_left r xs)) (length xs) n m cap (fewer r xs) h
  where
    less : (k l n m cap : ℕ) → k ≤ l → nat_le (n + (l + m)) cap ≡ true → nat_le (n + (k + m)) cap ≡ true
    less k l n m cap le h = grind (arith, nat_tests)

-- what leaves rows leaves room
pub room_left : (r : Option Removal) (xs now : List (Dot × Row)) (more n m : ℕ) → now ≡ rows_left r xs → n ≡ m → length xs + more ≤ m → length now + more ≤ n
room_left r xs now more n m e f h =
    let same : length now ≡ length (rows_left r xs) = ap length e in
    let less : length (rows_left r xs) ≤ length xs = fewer r xs in
    omega arith
