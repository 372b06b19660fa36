-- What a stored closure is asked with: references to a topic, a key and a dot.
use Rattle.std.specs.Prelude.{◌≡◌, ℕ, List}
use Rattle.std.specs.Borrow.{Bor}
use Rattle.presence_base.specs.declared.dots.Dot.{Dot}

-- some references to this topic and key have it
abbrev pub AtKey : (Bor (List ℕ) → Bor (List ℕ) → Type 0) → List ℕ → List ℕ → Type 0
AtKey P topic key = (t : Bor (List ℕ)) × (k : Bor (List ℕ)) × (t.now ≡ topic) × (k.now ≡ key) × P t k

-- some references to this topic, key and dot have it
abbrev pub AtRow : (Bor (List ℕ) → Bor (List ℕ) → Bor Dot → Type 0) → List ℕ → List ℕ → Dot → Type 0
AtRow P topic key dot = (d : Bor Dot) × (d.now ≡ dot) × AtKey (λ t k. P t k d) topic key
