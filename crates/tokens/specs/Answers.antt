-- What is answered of a text: what it is, or what is wrong with it.
use Rattle.std.specs.Prelude.{◌≡◌, Option, Some, None, Result, Ok, Err}
use Rattle.tokens.specs.declared.fault.TokenFault.{TokenFault}
use Rattle.tokens.specs.declared.fault.TokenFault.TheVariants.{Malformed, OutOfMemory}

infixl 10 ◌>>=◌
abbrev pub ◌>>=◌ : {A B : Type 0} → Result A TokenFault → (A → Result B TokenFault) → Result B TokenFault
(Ok x) >>= f = f x
(Err e) >>= f = Err e

-- the value, where there is one
abbrev pub present : {A : Type 0} → Option A → Result A TokenFault
present None = Err Malformed
present (Some x) = Ok x

-- the fault that is told is the one that stands, unless memory ran out
abbrev pub Fails : {Y : Type 0} → TokenFault → Result Y TokenFault → Type 0
Fails OutOfMemory reading = Unit {0}
Fails e reading = reading ≡ Err e

-- what was answered, seen by view, is the reading, unless memory ran out
abbrev pub Gives : {X Y : Type 0} → (X → Y) → Result X TokenFault → Result Y TokenFault → Type 0
Gives view (Ok x) reading = reading ≡ Ok (view x)
Gives view (Err e) reading = Fails e reading
