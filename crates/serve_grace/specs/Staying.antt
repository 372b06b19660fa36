-- How many clients of a server stay while it lets them go.
use Rattle.std.specs.Prelude.{◌≡◌, ◌≤◌, ◌<◌, ◌+◌, ◌-◌, ◌*◌, ℕ}

-- Of so many clients so many stay, once so much of the grace has passed: no more than the part of it that is left, and as many as
-- that is. Without a grace nobody stays.
pub record Stays (clients passed grace stay : ℕ) : Type 0 where
  pub few : stay * grace ≤ clients * (grace - passed)
  pub most : 0 < grace → clients * (grace - passed) < (stay + 1) * grace
  pub none : grace ≡ 0 → stay ≡ 0

-- Those of them that are there beyond these are let go.
abbrev pub Leaves : ℕ → ℕ → ℕ → ℕ → ℕ → Type 0
Leaves there clients passed grace leave = (stay : ℕ) × Stays clients passed grace stay × (leave ≡ there - stay)
