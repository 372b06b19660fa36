-- What a step of reading answers: what it found, or the first fault.
use Rattle.std.specs.Prelude.{◌≡◌, List, [], ◌∷◌, ◌++◌, Option, Some, None, Result, Ok, Err}
use Rattle.link_lines.specs.declared.fault.LinkFault.{LinkFault}
use Rattle.link_lines.specs.declared.fault.LinkFault.TheVariants.{BadLine, OutOfMemory}

infixl 10 ◌>>=◌
abbrev pub ◌>>=◌ : {A B : Type 0} → Result A LinkFault → (A → Result B LinkFault) → Result B LinkFault
(Ok x) >>= f = f x
(Err e) >>= f = Err e

-- what isn't there makes a bad line
abbrev pub or_bad : {A : Type 0} → Option A → Result A LinkFault
or_bad (Some x) = Ok x
or_bad None = Err BadLine

-- the fault that is told is the one that stands, unless memory ran out
abbrev pub Fails : {Y : Type 0} → LinkFault → Result Y LinkFault → Type 0
Fails OutOfMemory reading = Unit {0}
Fails e reading = reading ≡ Err e

-- what was answered, seen by view, is the reading, unless memory ran out
abbrev pub Gives : {X Y : Type 0} → (X → Y) → Result X LinkFault → Result Y LinkFault → Type 0
Gives view (Ok x) reading = reading ≡ Ok (view x)
Gives view (Err e) reading = Fails e reading

-- what was answered is the reading, unless memory ran out
abbrev pub Answers : {X : Type 0} → Result X LinkFault → Result X LinkFault → Type 0
Answers = Gives (λ x. x)

-- the item stands behind the others, unless memory ran out
abbrev pub Adds : {A : Type 0} → List A → List A → A → Result Unit LinkFault → Type 0
Adds old new x (Ok done) = new ≡ old ++ x ∷ []
Adds old new x (Err e) = e ≡ OutOfMemory
