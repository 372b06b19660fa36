-- Whether origins are given, and how many, by the texts that they are.
use Rattle.std.proofs.Common.{◌≡◌, ◌<◌, ◌≤◌, suc, ℕ, List, [], ◌∷◌, map, length, false, true, ap, refl, subst, sym, arith}
use Rattle.presence_options.specs.Given.{AreFewOrigins, IsFor}
use Rattle.presence_options.specs.Origins.{AreOrigins, is_origin}
use Rattle.presence_options.specs.declared.fault.UsageCause.TheVariants.{Origin}
use Rattle.presence_options.specs.declared.fault.UsageFault.{UsageFault}
use Rattle.presence_options.specs.declared.fault.UsageFault.TheVariants.{Usage, Memory}
use Rattle.presence_options.specs.declared.options.TheConstants.{MAX_ORIGINS}

same_length : {A B : Type 0} (f : A → B) (xs : List A) → length (map f xs) ≡ length xs
same_length f [] = refl
same_length f (x ∷ xs) = ap suc (same_length f xs)

pub few_origins : {A : Type 0} (text_of : A → List ℕ) (texts : List A) → length texts ≤ MAX_ORIGINS → AreOrigins (map text_of texts)
    → AreFewOrigins (map text_of texts)
few_origins text_of texts h each = record { each = each; few = subst (λ n. n ≤ MAX_ORIGINS) (sym (same_length text_of texts)) h }

pub many_origins : {A : Type 0} (text_of : A → List ℕ) (texts : List A) → MAX_ORIGINS < length texts → AreFewOrigins (map text_of texts) → ⊥
many_origins text_of texts many few =
    let short : length texts ≤ MAX_ORIGINS = subst (λ n. n ≤ MAX_ORIGINS) (same_length text_of texts) few.few in
    absurd (omega (arith, many, short))

-- where not all are origins, they are not few origins
pub none_wrong : (texts : List (List ℕ)) (fault : UsageFault) → IsFor Origin (AreOrigins texts → ⊥) fault → IsFor Origin (AreFewOrigins texts → ⊥) fault
none_wrong texts (Usage cause text) h = (h.0, λ few. h.1 few.each)
none_wrong texts Memory h = tt

-- nor are all where a later one is none
pub wrong_origin : (texts : List (List ℕ)) (origin : List ℕ) (later : List (List ℕ)) (fault : UsageFault)
    → (AreOrigins texts → AreOrigins (origin ∷ later)) → IsFor Origin (is_origin origin ≡ false) fault
    → IsFor Origin (AreOrigins texts → ⊥) fault
wrong_origin texts origin later (Usage cause text) all h = (h.0, λ each. no_origin origin (all each).0 h.1)
  where
    no_origin : (o : List ℕ) → is_origin o ≡ true → is_origin o ≡ false → ⊥
    no_origin o is isnt = cc
wrong_origin texts origin later Memory all h = tt

-- copies of origins are origins
pub copies_are : (copies texts : List (List ℕ)) → copies ≡ texts → AreOrigins texts → AreOrigins copies
copies_are copies texts same each = subst AreOrigins (sym same) each
