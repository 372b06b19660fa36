-- In which order the values of the shards go out.
use Rattle.std.specs.Prelude.{ℕ, suc, ◌-◌, ◌^◌, min, List, nat_le, position, unwrap_or}

-- the shard behind one
abbrev pub next_first : ℕ → ℕ
next_first shard = min (suc shard) (2 ^ 32 - 1)

-- where the first of these shards from this one on stands, or 0 where there is none
abbrev pub place_of : {T : Type 0} → ℕ → List (ℕ × T) → ℕ
place_of first values = unwrap_or (position (λ value. nat_le first value.0) values) 0
