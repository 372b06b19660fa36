-- The last value of each shard.
use Rattle.std.specs.Prelude.{◌==◌, ℕ, List, filter, not}

-- what is of other shards, in its order
abbrev pub others : {T : Type 0} → ℕ → List (ℕ × T) → List (ℕ × T)
others shard kept = filter (λ p. not (p.0 == shard)) kept
