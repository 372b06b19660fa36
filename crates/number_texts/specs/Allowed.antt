-- Which numbers messages may have, and what becomes of texts by that.
use Rattle.std.specs.Prelude.{◌≡◌, ℕ, Bool, true, false, List, map}
use Rattle.number_texts.specs.Marks.{marked_text, unmarked_text}
use Rattle.number_texts.specs.declared.allowed.Numbers.{Numbers}
use Rattle.number_texts.specs.declared.allowed.Numbers.TheVariants.{Whole, Any}

abbrev pub numbers_where : Bool → Numbers
numbers_where false = Whole
numbers_where true = Any

-- what a session reads a client's text as
abbrev pub heard_text : Numbers → List ℕ → List ℕ
heard_text Whole s = s
heard_text Any s = marked_text s

-- what a client gets of a session's text, and of several
abbrev pub told_text : Numbers → List ℕ → List ℕ
told_text Whole s = s
told_text Any s = unmarked_text s

abbrev pub all_told : Numbers → List (List ℕ) → List (List ℕ)
all_told Whole ts = ts
all_told Any ts = map unmarked_text ts

-- Where only whole numbers are allowed, as they are by default, each text stays as it is.
pub record WholeNumbersStay : Type 0 where
  pub default : numbers_where false ≡ Whole
  pub heard : (s : List ℕ) → heard_text Whole s ≡ s
  pub told : (s : List ℕ) → told_text Whole s ≡ s
  pub all : (ts : List (List ℕ)) → all_told Whole ts ≡ ts

-- What a client sent comes to clients as it was sent, whichever numbers are allowed.
abbrev pub TextsComeBack : Type 0
TextsComeBack = (n : Numbers) (s : List ℕ) → told_text n (heard_text n s) ≡ s
