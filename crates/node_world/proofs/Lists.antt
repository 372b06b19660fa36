-- Lists by position, and lives by replica.
use Rattle.std.proofs.Common.{◌≡◌, ℕ, zero, suc, ◌<◌, Bool, true, false, cond, nat_eq, List, [], ◌∷◌, ◌++◌, length, get_or, set, slice_get, Some, refl, sym, ◌∙◌, ap, subst, arith, inl, inr, length-set, eqb-true}
use Rattle.std.specs.Prelude.{◌⊎◌}
use Rattle.std.specs.List.{AllByRecursion, filter, list_all, list_any}
use Rattle.std.specs.Map.{lookup}
use Rattle.std.specs.FinMap as map
use Rattle.std.proofs.lemmas.Bool.{and_parts, and_from, or_parts, both_ways, cases_Bool}
use Rattle.std.proofs.lemmas.List.{get_or-set_same, get_or-set_other}
use Rattle.std.proofs.lemmas.Option.{same_Some, slice_get_within, slice_get-get_or, get_or_from_slice_get}
use Rattle.presence_base.specs.declared.dots.Replica.{Replica}
use Rattle.presence_base.specs.Order.{same_replica, same_text}
use Rattle.orswot_core.specs.Checks.{has_repeat}
use Rattle.presence_journal.specs.History.{first_some}
use Rattle.presence_journal.proofs.Same.{replica_total, same_text-refl}
use Rattle.node_world.specs.World.{LifeValue, Lives}

-- what holds of all holds of each
pub all_at : {A : Type 0} (P : A → Type 0) (xs : List A) (k : ℕ) (x : A) → AllByRecursion P xs → slice_get xs k ≡ Some x → P x
all_at P [] k x a f = absurd (cc)
all_at P (y ∷ ys) zero x a f = subst P (same_Some y x f) a.0
all_at P (y ∷ ys) (suc k) x a f = all_at P ys k x a.1 f

pub all_more : {A : Type 0} (P : A → Type 0) (xs : List A) (x : A) → AllByRecursion P xs → P x → AllByRecursion P (xs ++ x ∷ [])
all_more P [] x a p = (p, tt)
all_more P (y ∷ ys) x a p = (a.0, all_more P ys x a.1 p)

pub all_weaker : {A : Type 0} (P Q : A → Type 0) (xs : List A) → ((x : A) → P x → Q x) → AllByRecursion P xs → AllByRecursion Q xs
all_weaker P Q [] f a = tt
all_weaker P Q (x ∷ xs) f a = (f x a.0, all_weaker P Q xs f a.1)

-- what stands at a position of a list with another entry at one
pub set_cases : {A : Type 0} (xs : List A) (n m : ℕ) (q r : A) → slice_get (set xs n q) m ≡ Some r → ((m ≡ n) × (r ≡ q)) ⊎ ((m ≡ n → ⊥) × (slice_get xs m ≡ Some r))
set_cases xs n m q r f = go (cases_Bool (nat_eq m n))
  where
    within : m < length xs
    within = omega (arith, slice_get_within (set xs n q) m r f, length-set xs n q)

    at : get_or (set xs n q) m q ≡ r
    at = get_or_from_slice_get (set xs n q) m r q f

    go : (nat_eq m n ≡ true) ⊎ (nat_eq m n ≡ false) → ((m ≡ n) × (r ≡ q)) ⊎ ((m ≡ n → ⊥) × (slice_get xs m ≡ Some r))
    go (inl e) = let p : m ≡ n = eqb-true m n e in inl (p, sym at ∙ (ap (λ k. get_or (set xs n q) k q) p ∙ get_or-set_same xs n q q (subst (λ k. k < length xs) p within)))
    go (inr e) =
        let apart : m ≡ n → ⊥ = λ p. both_ways (nat_eq m n) e (ap (λ k. nat_eq m k) (sym p) ∙ same m) in
        inr (apart, slice_get-get_or xs m q within ∙ ap Some (sym (get_or-set_other xs n m q q apart) ∙ at))
      where
        same : (k : ℕ) → nat_eq k k ≡ true
        same k = grind arith

-- a test that all pass is passed by all that are picked of them
pub all_picked : {A : Type 0} (test picks : A → Bool) (xs : List A) → list_all test xs ≡ true → list_all test (filter picks xs) ≡ true
all_picked test picks [] h = refl
all_picked test picks (x ∷ xs) h =
    let p = and_parts (test x) (list_all test xs) h in
    go (picks x) p.0 (all_picked test picks xs p.1)
  where
    go : (b : Bool) → test x ≡ true → list_all test (filter picks xs) ≡ true → list_all test (cond b (x ∷ filter picks xs) (filter picks xs)) ≡ true
    go true here rest = and_from (test x) (list_all test (filter picks xs)) here rest
    go false here rest = rest

pub lookup-append : {K X : Type 0} (test : K → Bool) (xs ys : List (K × X)) → lookup test (xs ++ ys) ≡ first_some (lookup test xs) (lookup test ys)
lookup-append test [] ys = refl
lookup-append test (x ∷ xs) ys = go (test x.0) (lookup-append test xs ys)
  where
    go : (b : Bool) → lookup test (xs ++ ys) ≡ first_some (lookup test xs) (lookup test ys) → cond b (Some x.1) (lookup test (xs ++ ys)) ≡ first_some (cond b (Some x.1) (lookup test xs)) (lookup test ys)
    go true ih = refl
    go false ih = ih

-- ---- lives by replica

pub get-put : (m : Lives) (r : Replica) (l : LifeValue) (q : Replica) → map.get (map.insert m r l) q ≡ cond (same_replica q r) (Some l) (map.get m q)
get-put m r l q = map.get-insert replica_total m r l q

-- ---- names

-- a name that is not repeated stands nowhere else
not_again : (n : List ℕ) (ns : List (List ℕ)) (j : ℕ) (b : List ℕ) → list_any (same_text n) ns ≡ false → slice_get ns j ≡ Some b → n ≡ b → ⊥
not_again n [] j b h g e = cc
not_again n (m ∷ ms) zero b h g e = both_ways (same_text n m) (or_parts (same_text n m) (list_any (same_text n) ms) h).0 (ap (same_text n) (same_Some m b g ∙ sym e) ∙ same_text-refl n)
not_again n (m ∷ ms) (suc j) b h g e = not_again n ms j b (or_parts (same_text n m) (list_any (same_text n) ms) h).1 g e

-- positions of equal names are equal
pub one_place : (ns : List (List ℕ)) (i j : ℕ) (a b : List ℕ) → has_repeat same_text ns ≡ false → slice_get ns i ≡ Some a → slice_get ns j ≡ Some b → a ≡ b → i ≡ j
one_place [] i j a b h f g e = absurd (cc)
one_place (n ∷ ns) zero zero a b h f g e = refl
one_place (n ∷ ns) zero (suc j) a b h f g e = absurd (not_again n ns j b (or_parts (list_any (same_text n) ns) (has_repeat same_text ns) h).0 g (same_Some n a f ∙ e))
one_place (n ∷ ns) (suc i) zero a b h f g e = absurd (not_again n ns i a (or_parts (list_any (same_text n) ns) (has_repeat same_text ns) h).0 f (same_Some n b g ∙ sym e))
one_place (n ∷ ns) (suc i) (suc j) a b h f g e = ap suc (one_place ns i j a b (or_parts (list_any (same_text n) ns) (has_repeat same_text ns) h).1 f g e)
