-- What routes are that were added one after another.
use Rattle.std.proofs.Common.{◌≡◌, ◌<◌, ◌≤◌, ◌+◌, ◌++◌, ℕ, suc, ap, List, [], ◌∷◌, length, map, Bool, true, false, cond, nat_le, IsTrue, Some, None, Err, refl, sym, subst, ◌∙◌, arith}
use Rattle.std.specs.List.{AllByRecursion}
use Rattle.std.proofs.lemmas.Bool.Decides.{nat_tests}
use Rattle.hook_registry.specs.Patterns.{is_pattern}
use Rattle.hook_registry.specs.declared.routes.TheConstants.{MAX_ROUTES}
use Rattle.hook_registry.specs.Routes.{Answers, refusal}
use Rattle.hook_registry.specs.declared.routes.RouteFault.{RouteFault}
use Rattle.presence_options.specs.Given.{AreFewPatterns, MayFollow}
use Rattle.presence_options.specs.Limits.{numbered, ArePatterns, AreRoutes}
use Rattle.hook_registry.specs.declared.routes.RouteFault.TheVariants.{BadPattern, TooMany, OutOfMemory}

all_more : {A : Type 0} (P : A → Type 0) (xs : List A) (x : A) → AllByRecursion P xs → P x → AllByRecursion P (xs ++ x ∷ [])
all_more P [] x all p = (p, tt)
all_more P (y ∷ ys) x all p = (all.0, all_more P ys x all.1 p)

few_at : (is few : Bool) (n : ℕ) → nat_le MAX_ROUTES n ≡ few → cond is (cond few (Some TooMany) None) (Some BadPattern) ≡ None → n < MAX_ROUTES
few_at false few n e h = absurd (cc)
few_at true true n e h = absurd (cc)
few_at true false n e h = grind (arith, nat_tests)

-- where a route was added there were fewer than 64
pub few_before : (routes : List (List ℕ × ℕ)) (pattern : List ℕ) → refusal routes pattern ≡ None → length routes < MAX_ROUTES
few_before routes pattern h = few_at (is_pattern pattern) (nat_le MAX_ROUTES (length routes)) (length routes) refl h

-- and the pattern is one
pattern_at : (is few : Bool) → cond is (cond few (Some TooMany) None) (Some BadPattern) ≡ None → IsTrue is
pattern_at false few h = absurd (cc)
pattern_at true few h = refl

pub patterns_more : (routes : List (List ℕ × ℕ)) (pattern : List ℕ) (kind : ℕ) → ArePatterns routes → refusal routes pattern ≡ None → ArePatterns (routes ++ (pattern, kind) ∷ [])
patterns_more routes pattern kind all h = all_more (λ r. IsTrue (is_pattern r.0)) routes (pattern, kind) all (pattern_at (is_pattern pattern) (nat_le MAX_ROUTES (length routes)) h)

-- numbered patterns are their own, numbered
patterns_of : (n : ℕ) (ps : List (List ℕ)) → map (λ r. r.0) (numbered n ps) ≡ ps
patterns_of n [] = refl
patterns_of n (p ∷ ps) = subst (λ l. p ∷ map (λ r. r.0) (numbered (n + 1) ps) ≡ p ∷ l) (patterns_of (n + 1) ps) refl

kinds_of : (routes : List (List ℕ × ℕ)) (ps : List (List ℕ)) → routes ≡ numbered 0 ps → routes ≡ numbered 0 (map (λ r. r.0) routes)
kinds_of routes ps h = subst (λ l. l ≡ numbered 0 (map (λ r. r.0) l)) (sym h) (subst (λ l. numbered 0 ps ≡ numbered 0 l) (sym (patterns_of 0 ps)) refl)

-- up to 64 patterns that were numbered are routes
pub routes_within : (routes : List (List ℕ × ℕ)) (ps : List (List ℕ)) → routes ≡ numbered 0 ps → length routes ≤ MAX_ROUTES → ArePatterns routes → AreRoutes routes
routes_within routes ps h few all = record { few = few; patterns = all; kinds = kinds_of routes ps h }

-- ---- refusals

within : (n k : ℕ) → n < k → nat_le k n ≡ false
within n k h = grind (arith, nat_tests)

none_of : (is few : Bool) → is ≡ true → few ≡ false → cond is (cond few (Some TooMany) None) (Some BadPattern) ≡ None
none_of is few h k = rw (h, k) refl

-- a pattern that may follow is not refused
not_refused : (routes : List (List ℕ × ℕ)) (pattern : List ℕ) → MayFollow routes pattern → refusal routes pattern ≡ None
not_refused routes pattern m = none_of (is_pattern pattern) (nat_le MAX_ROUTES (length routes)) m.is (within (length routes) MAX_ROUTES m.few)

some_differs : (f : RouteFault) → Some f ≡ None → ⊥
some_differs f h = cc

-- so one that is refused may not
pub may_not_follow : (routes : List (List ℕ × ℕ)) (pattern : List ℕ) (f : RouteFault) → Answers (refusal routes pattern) (Err f) → (f ≡ OutOfMemory → ⊥) → MayFollow routes pattern → ⊥
may_not_follow routes pattern OutOfMemory a other m = other refl
may_not_follow routes pattern BadPattern a other m = some_differs BadPattern (sym a ∙ not_refused routes pattern m)
may_not_follow routes pattern TooMany a other m = some_differs TooMany (sym a ∙ not_refused routes pattern m)

-- what is left of few patterns is, with the routes so far, no more than are allowed
abbrev pub StillFew : ℕ → List (List ℕ) → Type 0
StillFew n rest = AllByRecursion (λ p. IsTrue (is_pattern p)) rest × (n + length rest ≤ MAX_ROUTES)

-- patterns whose routes are within their limits are few patterns
patterns_each : (n : ℕ) (ps : List (List ℕ)) → ArePatterns (numbered n ps) → AllByRecursion (λ p. IsTrue (is_pattern p)) ps
patterns_each n [] all = tt
patterns_each n (p ∷ ps) all = (all.0, patterns_each (n + 1) ps all.1)

numbered_length : (n : ℕ) (ps : List (List ℕ)) → length (numbered n ps) ≡ length ps
numbered_length n [] = refl
numbered_length n (p ∷ ps) = ap suc (numbered_length (n + 1) ps)

pub few_patterns : (routes : List (List ℕ × ℕ)) (ps : List (List ℕ)) → routes ≡ numbered 0 ps → AreRoutes routes → AreFewPatterns ps
few_patterns routes ps h within = record {
  each = patterns_each 0 ps (subst ArePatterns h within.patterns);
  few = subst (λ n. n ≤ MAX_ROUTES) (ap length h ∙ numbered_length 0 ps) within.few;
}
