-- Keys that do not repeat are distinct.
use Rattle.std.proofs.Common.{◌≡◌, Bool, true, false, ◌||◌, List, [], ◌∷◌, refl}
use Rattle.std.specs.List.{AllByRecursion, IsDistinct, list_any}
use Rattle.std.proofs.lemmas.Map.Keys.{IsDistinct-cons}
use Rattle.orswot_core.specs.Checks.{has_repeat}

both_false : (a b : Bool) → (a || b) ≡ false → (a ≡ false) × (b ≡ false)
both_false true b e = absurd (cc)
both_false false b e = (refl, e)

none_of : {K : Type 0} (p : K → Bool) (ks : List K) → list_any p ks ≡ false → AllByRecursion (λ y. p y ≡ false) ks
none_of p [] e = tt
none_of p (k ∷ ks) e = let parts = both_false (p k) (list_any p ks) e in (parts.0, none_of p ks parts.1)

none_distinct : {K : Type 0} (same : K → K → Bool) → IsDistinct same []
unfolding IsDistinct
none_distinct same = tt

pub distinct : {K : Type 0} (same : K → K → Bool) (ks : List K) → has_repeat same ks ≡ false → IsDistinct same ks
distinct same [] e = none_distinct same
distinct same (k ∷ ks) e =
    let parts = both_false (list_any (same k) ks) (has_repeat same ks) e in
    IsDistinct-cons same k ks (none_of (same k) ks parts.0) (distinct same ks parts.1)
