-- Whether texts are names of events, and how many, by the texts that they are.
use Rattle.std.proofs.Common.{◌≡◌, ◌<◌, ◌≤◌, suc, ℕ, List, [], ◌∷◌, map, length, false, true, ap, refl, subst, sym, arith}
use Rattle.presence_options.specs.Given.{AreNames, HasCause, IsFor}
use Rattle.presence_options.specs.Limits.{AreEventNames, is_event_name}
use Rattle.presence_options.specs.declared.fault.UsageCause.TheVariants.{Event}
use Rattle.presence_options.specs.declared.fault.UsageFault.{UsageFault}
use Rattle.presence_options.specs.declared.fault.UsageFault.TheVariants.{Usage, Memory}
use Rattle.presence_options.specs.declared.options.TheConstants.{MAX_EVENT_NAMES}

same_length : {A B : Type 0} (f : A → B) (xs : List A) → length (map f xs) ≡ length xs
same_length f [] = refl
same_length f (x ∷ xs) = ap suc (same_length f xs)

pub named : {A : Type 0} (text_of : A → List ℕ) (texts : List A) → length texts ≤ MAX_EVENT_NAMES → AreEventNames (map text_of texts)
    → AreNames (map text_of texts)
named text_of texts h each = record { each = each; few = subst (λ n. n ≤ MAX_EVENT_NAMES) (sym (same_length text_of texts)) h }

pub crowded : {A : Type 0} (text_of : A → List ℕ) (texts : List A) (fault : UsageFault) → MAX_EVENT_NAMES < length texts → HasCause Event fault
    → IsFor Event (AreNames (map text_of texts) → ⊥) fault
crowded text_of texts (Usage cause text) many has = (
  has,
  λ few.
      let short : length texts ≤ MAX_EVENT_NAMES = subst (λ n. n ≤ MAX_EVENT_NAMES) (same_length text_of texts) few.few in
      absurd (omega (arith, many, short)),
)
crowded text_of texts Memory many has = tt

-- where one is no name, not all are
pub misnamed : (texts : List (List ℕ)) (fault : UsageFault) → IsFor Event (AreEventNames texts → ⊥) fault → IsFor Event (AreNames texts → ⊥) fault
misnamed texts (Usage cause text) h = (h.0, λ few. h.1 few.each)
misnamed texts Memory h = tt

pub wrong_name : (texts : List (List ℕ)) (name : List ℕ) (later : List (List ℕ)) (fault : UsageFault)
    → (AreEventNames texts → AreEventNames (name ∷ later)) → IsFor Event (is_event_name name ≡ false) fault
    → IsFor Event (AreEventNames texts → ⊥) fault
wrong_name texts name later (Usage cause text) all h = (h.0, λ each. no_name name (all each).0 h.1)
  where
    no_name : (n : List ℕ) → is_event_name n ≡ true → is_event_name n ≡ false → ⊥
    no_name n is isnt = cc
wrong_name texts name later Memory all h = tt
