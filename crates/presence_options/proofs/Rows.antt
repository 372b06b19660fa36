-- What the parser found of an option, as the rows of its matches have it.
use Rattle.std.proofs.Common.{◌≡◌, option_map, Option, Some, None, refl}
use Rattle.clap.specs.Words.{Text, all_of, first_of, first_value, matched_of, raw_values, rows_of}
use Rattle.clap.specs.declared.parser.matches.Found.{Found}
use Rattle.clap.proofs.WalkLemmas.{first_value-rows, raw_values-rows}

pub first_read : (f : Found) (id : Text) → first_value f id ≡ first_of id (rows_of f)
first_read f id = first_value-rows f id

pub all_read : (f : Found) (id : Text) → option_map raw_values (matched_of f id) ≡ all_of id (rows_of f)
all_read f id = raw_values-rows f id

-- a name and what goes with it, from each by itself
pub met : {A B X Y : Type 0} (x : Option B) (h : B → X × Y) (r : Option A) (f : A → X) (g : A → Y)
    → option_map f r ≡ option_map (λ b. (h b).0) x → option_map g r ≡ option_map (λ p. p.1) (option_map h x) → option_map (λ a. (f a, g a)) r ≡ option_map h x
met None h None f g e i = refl
met None h (Some a) f g e i = cc
met (Some b) h None f g e i = cc
met (Some b) h (Some a) f g e i = rw (some_same _ _ e, some_same _ _ i) refl
  where
    some_same : {A : Type 0} (x y : A) → Some x ≡ Some y → x ≡ y
    some_same x y e = cc
