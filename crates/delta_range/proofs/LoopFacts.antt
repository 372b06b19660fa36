-- Steps of loops.
use Rattle.std.proofs.Common.{◌≡◌, ℕ, suc, ◌+◌, ◌-◌, ◌<◌, Bool, true, false, ◌&&◌, ◌||◌, List, [], ◌∷◌, ◌++◌, refl, sym, ◌∙◌, ap, append_assoc, arith}
use Rattle.std.specs.FinSet as set
use Rattle.presence_base.specs.declared.dots.Replica.{Replica}
use Rattle.presence_base.specs.declared.dots.Dot.{Dot}
use Rattle.presence_base.specs.Order.{same_replica}
use Rattle.dot_context.specs.Runs.{in_run, holds}
use Rattle.dot_context.specs.Sets.{DotSet, span, range}
use Rattle.dot_context.proofs.SetFacts.{contains-range}
use Rattle.orswot_core.proofs.OrderFacts.{dot_total}

-- one more element, and one fewer is left
pub pushed_one : {A : Type 0} (x : A) (before now xs rest : List A) → xs ≡ x ∷ rest → now ≡ before ++ x ∷ [] → now ++ rest ≡ before ++ xs
pushed_one x before now xs rest split step = ap (λ l. l ++ rest) step ∙ append_assoc before (x ∷ []) rest ∙ ap (λ l. before ++ l) (sym split)

-- the dots above a count are the next one and those above it
pub span_next : (r : Replica) (n to : ℕ) → n < to → span r n (to - n) ≡ record { replica = r; count = n + 1 } ∷ span r (n + 1) (to - (n + 1))
span_next r n to lt =
    let one : to - n ≡ suc (to - (n + 1)) = omega arith in
    let next : suc n ≡ n + 1 = omega arith in
    ap (span r n) one ∙ (λ i. record { replica = r; count = next i } ∷ span r (next i) (to - (n + 1)))

spread : (c s x y : Bool) → ((c || (s && x)) || (s && y)) ≡ (c || (s && (x || y)))
spread true s x y = refl
spread false true x y = refl
spread false false x y = refl

-- one more run is in the set, and one fewer is left
pub run_added : (dots new : DotSet) (owner : Replica) (r : ℕ × ℕ) (rs rest : List (ℕ × ℕ)) (q : Dot) → rs ≡ r ∷ rest → new ≡ set.union dots (range owner r.0 r.1)
    → (set.contains new q || (same_replica q.replica owner && holds rest q.count)) ≡ (set.contains dots q || (same_replica q.replica owner && holds rs q.count))
run_added dots new owner r rs rest q split step =
    let s = same_replica q.replica owner in
    ap (λ t. set.contains t q || (s && holds rest q.count)) step
    ∙ ap (λ b. b || (s && holds rest q.count)) (set.contains-union dot_total dots (range owner r.0 r.1) q)
    ∙ ap (λ b. (set.contains dots q || b) || (s && holds rest q.count)) (contains-range owner r.0 r.1 q)
    ∙ spread (set.contains dots q) s (in_run r q.count) (holds rest q.count)
    ∙ ap (λ l. set.contains dots q || (s && holds l q.count)) (sym split)
