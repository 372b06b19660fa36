-- Which calls are refused where memory is tight.
use Rattle.std.specs.Prelude.{◌≡◌, Bool, true, false, ◌&&◌, Err}
use Rattle.channel_rules.specs.Asks.{Ask, Answer, track, subscribe, shout}
use Rattle.channel_rules.specs.declared.refusal.Refusal.TheVariants.{OverRation}

-- a call that takes memory for long: a new row, a new subscriber, a text for all of them
abbrev pub grows : Ask → Bool
grows (track t k m) = true
grows (subscribe t) = true
grows (shout t p) = true
grows q = false

-- The port inside isn't asked, and the refusal is its own; or it is asked.
abbrev pub RefusesIf : {P : Type 0} → (P → (q : Ask) → Answer q → P → Type 0) → Bool → P → (q : Ask) → Answer q → P → Type 0
RefusesIf step true old q a new = (new ≡ old) × (a ≡ Err OverRation)
RefusesIf step false old q a new = step old q a new

-- Where memory is tight those are refused that take more of it, and no others.
abbrev pub Guarded : {P : Type 0} → (P → (q : Ask) → Answer q → P → Type 0) → Bool → P → (q : Ask) → Answer q → P → Type 0
Guarded step is_tight old q a new = RefusesIf step (is_tight && grows q) old q a new
