-- A generation after a push ends with the delta that was pushed, and is within its cap.
use Rattle.std.proofs.Common.{◌≡◌, ℕ, ◌≤◌, true, false, cond, nat_le, refl, sym, ◌∙◌, ap, subst, Option, Some, None, arith}
use Rattle.std.proofs.lemmas.Bool.Decides.{nat_tests}
use Rattle.presence_base.specs.declared.dots.Replica.{Replica}
use Rattle.presence_base.specs.Names.{guarded}
use Rattle.delta_range.specs.declared.generations.TheConstants.{SHORT_CAP, MIDDLE_CAP, LONG_CAP}
use Rattle.delta_range.specs.Deltas.{DeltaValue, GoesOn}
use Rattle.delta_range.specs.Joining.{joined}
use Rattle.delta_range.specs.Keeping.{Kept, AreKept, EndsWithin, GoesOnFrom, IsNext, alone, grown, size}

within_cap : (n cap : ℕ) → nat_le n cap ≡ true → n ≤ cap
within_cap n cap e = grind (arith, nat_tests)

-- a delta that goes on from the last one goes on from what a generation keeps
pub goes_on_from : (last : Option (Replica × ℕ)) (cap : ℕ) (old : Option DeltaValue) (d : DeltaValue) → EndsWithin last cap old → IsNext last d → GoesOnFrom old d
goes_on_from last cap None d h next = tt
goes_on_from last cap (Some old) d h next = subst (λ l. IsNext l d) h.0 next

alone_ends : (cap : ℕ) (d : DeltaValue) → EndsWithin (Some (d.owner, d.to)) cap (alone cap d)
alone_ends cap d =
    elim (nat_le (size d) cap) as (λ b. nat_le (size d) cap ≡ b → EndsWithin (Some (d.owner, d.to)) cap (guarded b d)) [
      | true ↦ λ e. (refl, within_cap (size d) cap e)
      | false ↦ λ e. tt
    ] refl

abbrev end_of : Replica → ℕ → Option (Replica × ℕ)
end_of r n = Some (r, n)

joined_ends : (old d : DeltaValue) → GoesOn old.owner old.to d → end_of d.owner d.to ≡ end_of (joined old d).owner (joined old d).to
unfolding joined
joined_ends old d next = ap (λ r. end_of r d.to) next.owned

pub grown_ends : (cap : ℕ) (old : Option DeltaValue) (d : DeltaValue) → GoesOnFrom old d → EndsWithin (Some (d.owner, d.to)) cap (grown cap old d)
grown_ends cap None d next = alone_ends cap d
grown_ends cap (Some old) d next =
    elim (nat_le (size (joined old d)) cap) as (λ b. nat_le (size (joined old d)) cap ≡ b → EndsWithin (Some (d.owner, d.to)) cap (cond b (Some (joined old d)) (alone cap d))) [
      | true ↦ λ e. (joined_ends old d next, within_cap (size (joined old d)) cap e)
      | false ↦ λ e. alone_ends cap d
    ] refl

ended : (last : Option (Replica × ℕ)) (cap : ℕ) (old new : Option DeltaValue) (d : DeltaValue) (owner : Replica) (to : ℕ) → EndsWithin last cap old → IsNext last d
    → owner ≡ d.owner → to ≡ d.to → new ≡ grown cap old d → EndsWithin (Some (owner, to)) cap new
ended last cap old new d owner to h next e f grew =
    let done : EndsWithin (Some (d.owner, d.to)) cap (grown cap old d) = grown_ends cap old d (goes_on_from last cap old d h next) in
    let moved : end_of d.owner d.to ≡ end_of owner to = ap (λ r. end_of r d.to) (sym e) ∙ ap (end_of owner) (sym f) in
    let renamed : EndsWithin (Some (owner, to)) cap (grown cap old d) = subst (λ l. EndsWithin l cap (grown cap old d)) moved done in
    subst (EndsWithin (Some (owner, to)) cap) (sym grew) renamed

-- after a push all three still end with the last delta, within their caps
pub kept_after : (k : Kept) (d : DeltaValue) (owner : Replica) (to : ℕ) (short middle long : Option DeltaValue) → AreKept k → IsNext k.last d → owner ≡ d.owner → to ≡ d.to
    → short ≡ grown SHORT_CAP k.short d → middle ≡ grown MIDDLE_CAP k.middle d → long ≡ grown LONG_CAP k.long d
    → AreKept (record { last = Some (owner, to); short = short; middle = middle; long = long })
kept_after k d owner to short middle long h next e f g-short g-middle g-long = record {
  short = ended k.last SHORT_CAP k.short short d owner to h.short next e f g-short;
  middle = ended k.last MIDDLE_CAP k.middle middle d owner to h.middle next e f g-middle;
  long = ended k.last LONG_CAP k.long long d owner to h.long next e f g-long;
}

-- equal parts are kept alike
pub kept_alike : (k : Kept) (short middle long : Option DeltaValue) → short ≡ k.short → middle ≡ k.middle → long ≡ k.long
    → record { last = k.last; short = short; middle = middle; long = long } ≡ k
kept_alike k short middle long e-short e-middle e-long = λ i. record { last = k.last; short = e-short i; middle = e-middle i; long = e-long i }
