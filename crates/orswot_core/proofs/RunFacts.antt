-- The dots of runs that are told as ranges.
use Rattle.std.proofs.Common.{◌≡◌, ℕ, Bool, true, false, ◌&&◌, ◌||◌, List, [], ◌∷◌, ◌++◌, refl, ◌∙◌, ap}
use Rattle.std.specs.List.{list_any}
use Rattle.presence_base.specs.declared.dots.Replica.{Replica}
use Rattle.presence_base.specs.declared.dots.Dot.{Dot}
use Rattle.presence_base.specs.Order.{same_replica}
use Rattle.dot_context.specs.Runs.{in_run, holds}
use Rattle.dot_context.proofs.SetFacts.{and_false}
use Rattle.orswot_core.specs.Telling.{range_has, run_ranges}

and_or : (a b c : Bool) → ((a && b) || (a && c)) ≡ (a && (b || c))
and_or true b c = refl
and_or false b c = refl

-- a dot lies in the ranges of runs where these hold its count
pub in_run_ranges : (d : Dot) (r : Replica) (rs : List (ℕ × ℕ)) → list_any (range_has d) (run_ranges r rs) ≡ (same_replica d.replica r && holds rs d.count)
in_run_ranges d r [] = and_false (same_replica d.replica r)
in_run_ranges d r (x ∷ xs) =
    ap (λ b. (same_replica d.replica r && in_run x d.count) || b) (in_run_ranges d r xs)
    ∙ and_or (same_replica d.replica r) (in_run x d.count) (holds xs d.count)

pub any_either_list : {A : Type 0} (p : A → Bool) (xs ys : List A) → list_any p (xs ++ ys) ≡ (list_any p xs || list_any p ys)
any_either_list p [] ys = refl
any_either_list p (x ∷ xs) ys = ap (λ b. p x || b) (any_either_list p xs ys) ∙ regroup (p x) (list_any p xs) (list_any p ys)
  where
    regroup : (a b c : Bool) → (a || (b || c)) ≡ ((a || b) || c)
    regroup true b c = refl
    regroup false b c = refl

pub and_parts : (a b : Bool) → (a && b) ≡ true → (a ≡ true) × (b ≡ true)
and_parts true b h = (refl, h)
and_parts false b h = absurd (cc)

pub and_from : (a b : Bool) → a ≡ true → b ≡ true → (a && b) ≡ true
and_from true true h k = refl
and_from true false h k = absurd (cc)
and_from false b h k = absurd (cc)

pub or_true : (a : Bool) → (a || true) ≡ true
or_true true = refl
or_true false = refl
