-- What is answered where a token is signed.
use Rattle.std.proofs.Common.{◌≡◌, Bool, true, false, if◌then◌else◌, Result, Ok, Err, refl}
use Rattle.tokens.specs.Answers.{◌>>=◌, Fails}
use Rattle.tokens.specs.Claimed.{Granted}
use Rattle.tokens.specs.Making.{WantedTexts, if_wanted, is_wanted}
use Rattle.tokens.specs.declared.fault.TokenFault.{TokenFault}
use Rattle.tokens.specs.declared.fault.TokenFault.TheVariants.{Malformed, OtherAlgorithm, BadSignature, BadClaims, TooEarly, Expired, OutOfMemory}

-- a token that isn't taken isn't given away
pub fails_behind : {A B : Type 0} (e : TokenFault) (r : Result A TokenFault) (f : A → Result B TokenFault) → Fails e r → Fails e (r >>= f)
fails_behind OutOfMemory r f h = tt
fails_behind Malformed r f h = rw h refl
fails_behind OtherAlgorithm r f h = rw h refl
fails_behind BadSignature r f h = rw h refl
fails_behind BadClaims r f h = rw h refl
fails_behind TooEarly r f h = rw h refl
fails_behind Expired r f h = rw h refl

-- nor is one that grants something else
pub unwanted : (w : WantedTexts) (r : Result Granted TokenFault) (g : Granted) → r ≡ Ok g → is_wanted w g ≡ false
    → (r >>= if_wanted w) ≡ Err BadClaims
unwanted w r g is other = rw is (by_test (is_wanted w g) other)
  where
    by_test : (b : Bool) → b ≡ false → (if b then Ok g else Err BadClaims) ≡ Err BadClaims
    by_test true e = absurd (cc)
    by_test false e = refl
