-- What a rule asks of a port, one question after another, and what each answer leads to.
use Rattle.std.specs.Prelude.{◌≡◌, List, [], ◌∷◌}
use Rattle.channel_rules.specs.Asks.{Ask, Answer, Call}

pub data Script (E : Type 0) : Type 0 where
  done : E → Script E
  ask : (q : Ask) → (Answer q → Script E) → Script E

-- with these calls the script comes to this end
abbrev pub Plays : {E : Type 0} → Script E → List Call → E → Type 0
Plays (done x) [] e = x ≡ e
Plays (done x) (c ∷ cs) e = ⊥
Plays (ask q next) [] e = ⊥
Plays (ask q next) (c ∷ cs) e = (a : Answer q) × (c ≡ record { ask = q; answer = a }) × Plays (next a) cs e

-- these are the first calls of the script, and this holds of the rest
abbrev pub Begins : {E : Type 0} → (Script E → Type 0) → Script E → List Call → Type 0
Begins Rest s [] = Rest s
Begins Rest (done x) (c ∷ cs) = ⊥
Begins Rest (ask q next) (c ∷ cs) = (a : Answer q) × (c ≡ record { ask = q; answer = a }) × Begins Rest (next a) cs
