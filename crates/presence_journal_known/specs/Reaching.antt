-- How far the counts of a replica go on without a gap.
use Rattle.std.specs.Prelude.{◌≡◌, ℕ, ◌+◌, ◌<◌, ◌≤◌, Bool, true, nat_lt}
use Rattle.presence_base.specs.declared.dots.Dot.{Dot}
use Rattle.presence_base.specs.declared.dots.Replica.{Replica}

-- the counts of a replica whose dots pass a test
abbrev pub counts_of : (Dot → Bool) → Replica → ℕ → Bool
counts_of has r n = has (record { replica = r; count = n })

-- all counts above `from`, up to `to`, pass the test, and these are some where the next count does
pub record Reaches (has : ℕ → Bool) (from to : ℕ) : Type 0 where
  pub order : from ≤ to
  pub within : (n : ℕ) → from < n → n ≤ to → has n ≡ true
  pub next : has (from + 1) ≡ nat_lt from to
