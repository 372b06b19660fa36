-- By how much the time that is handed in goes on.
use Rattle.std.specs.Prelude.{◌≡◌, ℕ, ◌+◌, ◌*◌, ◌-◌, ◌^◌, min, max}

-- the largest number of a time
abbrev pub most_time : ℕ
most_time = 2 ^ 64 - 1

-- to what the clock shows, but by two periods at most, and never back
abbrev pub stepped : ℕ → ℕ → ℕ → ℕ
stepped last now period = max (min now (min (last + min (period * 2) most_time) most_time)) last

-- the time behind another, by some time that the clock shows
abbrev pub GoesBy : (last period time : ℕ) → Type 0
GoesBy last period time = (now : ℕ) × (time ≡ stepped last now period)
