-- The ledgers of a pool that none has opened.
use Rattle.std.specs.Prelude.{◌≡◌, ℕ}
use Rattle.shard_pool.specs.declared.blanks.Blanks.{Blanks}

-- each has so many parts
abbrev pub HaveParts : Blanks → ℕ → Type 0
HaveParts blanks parts = (blanks.first.parts ≡ parts) × (blanks.second.parts ≡ parts)
    × (blanks.third.parts ≡ parts) × (blanks.fourth.parts ≡ parts)
