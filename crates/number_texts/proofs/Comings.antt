-- Texts that come in and go out again.
use Rattle.std.proofs.Common.{◌≡◌, ℕ, List, refl}
use Rattle.number_texts.specs.Allowed.{heard_text, told_text}
use Rattle.number_texts.specs.declared.allowed.Numbers.{Numbers}
use Rattle.number_texts.specs.declared.allowed.Numbers.TheVariants.{Whole, Any}
use Rattle.number_texts.proofs.Back.{marks_back}

pub come_back : (n : Numbers) (s : List ℕ) → told_text n (heard_text n s) ≡ s
come_back Whole s = refl
come_back Any s = marks_back s
