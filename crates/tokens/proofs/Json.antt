-- The JSON value that bytes are.
use Rattle.std.proofs.Common.{◌≡◌, ℕ, List, Bool, true, false, Option, Some, None, Result, Ok, Err, refl, ◌∙◌}
use Rattle.std.specs.Prelude.{IsSomeAnd}
use Rattle.std.specs.Str.{IsUtf8, is_utf8}
use Rattle.std.proofs.lemmas.Str.{IsUtf8-from_is_utf8, is_utf8-from_IsUtf8}
use Rattle.json.specs.Json.{Json, document}
use Rattle.json.specs.Strict.{HasUniqueKeys}
use Rattle.json.specs.declared.error.Error.{Error}
use Rattle.json.specs.declared.error.Error.TheVariants as error
use Rattle.tokens.specs.Answers.{Fails}
use Rattle.tokens.specs.Unique.{fault_in, json_in, unique_in}
use Rattle.tokens.specs.declared.fault.TokenFault.TheVariants.{Malformed}
use Rattle.tokens.proofs.Distinct.{unique_told, not_unique}

pub of_text : (bytes : List ℕ) → IsUtf8 bytes → json_in bytes ≡ unique_in (document bytes)
unfolding json_in
of_text bytes utf8 = rw (is_utf8-from_IsUtf8 bytes utf8) refl

no_text : (b : Bool) (bytes : List ℕ) → is_utf8 bytes ≡ b → ¬ (IsUtf8 bytes) → b ≡ false
no_text true bytes e lacks = absurd (lacks (IsUtf8-from_is_utf8 bytes e))
no_text false bytes e lacks = refl

pub of_bytes : (bytes : List ℕ) → ¬ (IsUtf8 bytes) → json_in bytes ≡ Err Malformed
unfolding json_in
of_bytes bytes lacks = rw (no_text (is_utf8 bytes) bytes refl lacks) refl

pub of_unique : (bytes : List ℕ) (j : Json) → IsUtf8 bytes → document bytes ≡ Some j → HasUniqueKeys j → json_in bytes ≡ Ok j
of_unique bytes j utf8 is unique = of_text bytes utf8 ∙ rw (is, unique_told j unique) refl

pub of_none : (bytes : List ℕ) → IsUtf8 bytes → document bytes ≡ None → json_in bytes ≡ Err Malformed
of_none bytes utf8 is = of_text bytes utf8 ∙ rw is refl

pub of_twice : (bytes : List ℕ) → IsUtf8 bytes → IsSomeAnd (document bytes) (λ j. ¬ HasUniqueKeys j) → json_in bytes ≡ Err Malformed
of_twice bytes utf8 twice = of_text bytes utf8 ∙ go (document bytes) twice
  where
    go : (o : Option Json) → IsSomeAnd o (λ j. ¬ HasUniqueKeys j) → unique_in o ≡ Err Malformed
    go None none = absurd none
    go (Some j) lacks = rw (not_unique j lacks) refl

pub of_error : {A : Type 0} (bytes : List ℕ) (r : Result A Error) (e : Error) → r ≡ Err e → IsUtf8 bytes
    → (r ≡ Err error.Invalid → document bytes ≡ None) → (r ≡ Err error.DuplicateKey → IsSomeAnd (document bytes) (λ j. ¬ HasUniqueKeys j))
    → ¬ (r ≡ Err error.TooLong) → Fails (fault_in e) (json_in bytes)
of_error bytes r error.OutOfMemory is utf8 invalid twice long = tt
of_error bytes r error.Invalid is utf8 invalid twice long = of_none bytes utf8 (invalid is)
of_error bytes r error.DuplicateKey is utf8 invalid twice long = of_twice bytes utf8 (twice is)
of_error bytes r error.TooLong is utf8 invalid twice long = absurd (long is)
