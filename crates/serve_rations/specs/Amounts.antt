-- Amounts of rows and bytes, and what has room in a budget.
use Rattle.std.specs.Prelude.{ℕ, ◌+◌, ◌-◌, ◌^◌, Bool, ◌&&◌, leb, min}
use Rattle.serve_rations.specs.declared.amount.Amount.{Amount}

-- no row, and no byte
abbrev pub nothing : Amount
nothing = record { rows = 0; bytes = 0 }

-- what is counted in 64 bits
abbrev pub counted : ℕ → ℕ
counted n = min n (2 ^ 64 - 1)

-- both
abbrev pub together : Amount → Amount → Amount
together a b = record { rows = counted (a.rows + b.rows); bytes = counted (a.bytes + b.bytes) }

-- what is left of the first without the second
abbrev pub without : Amount → Amount → Amount
without a b = record { rows = a.rows - b.rows; bytes = a.bytes - b.bytes }

-- whether a budget has room for so much more where so much is taken
abbrev pub has_room : Amount → Amount → Amount → Bool
has_room budget taken more = leb more.rows (budget.rows - taken.rows) && leb more.bytes (budget.bytes - taken.bytes)
