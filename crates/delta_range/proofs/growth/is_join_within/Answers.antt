use Rattle.std.proofs.Common.{◌≡◌, ℕ, ◌+◌, nat_le, length, List, Option, Some, None, refl, sym, ◌∙◌, ap, subst, arith}
use Rattle.std.specs.Vec.{vec_len}
use Rattle.presence_base.specs.declared.dots.Dot.{Dot}
use Rattle.presence_base.specs.declared.row.Row.{Row}
use Rattle.delta_range.specs.declared.growth.Removal.{Removal}
use Rattle.delta_range.specs.Deltas.{DeltaValue}
use Rattle.delta_range.specs.Joining.{joined, not_in}
use Rattle.delta_range.specs.Growing.{IsRemoval}
use Rattle.delta_range.specs.Keeping.{size}
use Rattle.delta_range.proofs.GrowthFacts.{join_size, still_within}
use Rattle.delta_range.proofs.growth.is_join_within.Goals as goal

-- so many runs and rows are those of the joined delta
sized : (a b : DeltaValue) (o : Option Removal) (r : Removal) (n k : ℕ) (live more : List (Dot × Row)) → IsRemoval o a b → o ≡ Some r → n ≡ vec_len r.runs → k ≡ length (not_in r.dots live) → live ≡ a.live → more ≡ b.live
    → n + (k + length more) ≡ size (joined a b)
sized a b o r n k live more h is e f e-live e-more =
    join_size a b (Some r) n k (length more) (subst (λ x. IsRemoval x a b) is h)
    (omega (arith, e, r.runs.ok))
    (f ∙ ap (λ xs. length (not_in r.dots xs)) e-live)
    (ap length e-more)

pub returns-then-is_sum_within : goal.returns-then-is_sum_within
returns-then-is_sum_within c =
    let r = c.in-Some.removal in
    let live = c.live-live.result.now in
    sym (still_within (Some r) live c.len-runs.result (length c.live.result.now) c.args.cap (sym c.is_sum_within.ensures ∙ c.if-is_sum_within.true))
    ∙ ap (λ n. nat_le n c.args.cap)
    (sized c.args.first.now c.args.next.now c.args.removal.now r c.len-runs.result (length (not_in r.dots live)) live c.live.result.now
    c.requires c.in-Some.is c.len-runs.ensures refl c.live-live.ensures.live c.live.ensures.live)

pub returns-else-is_sum_within : goal.returns-else-is_sum_within
returns-else-is_sum_within c =
    c.is_sum_within-in-Some.ensures
    ∙ ap (λ n. nat_le n c.args.cap)
    (sized c.args.first.now c.args.next.now c.args.removal.now c.in-Some.removal c.len-runs.result c.count_left.result c.live-live.result.now c.live.result.now
    c.requires c.in-Some.is c.len-runs.ensures c.count_left.ensures c.live-live.ensures.live c.live.ensures.live)

pub returns-in-None : goal.returns-in-None
returns-in-None c =
    let a = c.args.first.now in
    let b = c.args.next.now in
    c.is_sum_within-in-None.ensures
    ∙ ap (λ n. nat_le n c.args.cap)
    (join_size a b None (length c.older-older.result.now) (length c.live-live.result.now) (length c.live.result.now) (subst (λ o. IsRemoval o a b) c.in-None.is c.requires)
    (ap length c.older-older.ensures.older) (ap length c.live-live.ensures.live) (ap length c.live.ensures.live))
