-- Numbers by their grammar.
use Rattle.std.proofs.Common.{◌≡◌, ◌↔◌, ℕ, Bool, true, false, List, [], ◌∷◌, Option, Some, None, IsTrue, refl}
use Rattle.json.specs.Print.{IsNumber}
use Rattle.json.specs.Word.{after_number}
use Rattle.number_texts.specs.Numbers.{ends_there, is_number}

by_end : (b : Bool) (o : Option (List ℕ)) → (IsTrue b → o ≡ Some []) → (o ≡ Some [] → IsTrue b) → b ≡ ends_there o
by_end true o is back = rw (is refl) refl
by_end false None is back = refl
by_end false (Some []) is back = back refl
by_end false (Some (x ∷ xs)) is back = refl

pub numbers : (b : Bool) (t : List ℕ) → (IsTrue b ↔ IsNumber t) → b ≡ is_number t
numbers b t h = by_end b (after_number t) h.0 h.1
