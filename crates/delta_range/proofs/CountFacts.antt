-- How many dots runs stand for.
use Rattle.std.proofs.Common.{◌≡◌, ◌≤◌, ◌<◌, ◌+◌, ◌-◌, ℕ, suc, Bool, not, nat_le, nat_lt, List, [], ◌∷◌, ◌++◌, length, refl, ◌∙◌, ap, arith}
use Rattle.std.proofs.lemmas.Bool.Decides.{nat_tests}
use Rattle.presence_base.specs.declared.dots.Replica.{Replica}
use Rattle.orswot_core.specs.declared.form.Form.TheVariants.{One, Two}
use Rattle.orswot_core.specs.Telling.{Range, run_ranges}
use Rattle.orswot_core.proofs.FittingFacts.{length_run_dots}
use Rattle.delta_range.specs.Deltas.{DeltaValue}
use Rattle.delta_range.specs.Fitting.{counts_in, fits_line}

fits_rest : (a k m : ℕ) → k ≤ m → nat_le a (m - k) ≡ not (nat_lt m (a + k))
fits_rest a k m h = grind (arith, nat_tests)

fits_none : (a k m : ℕ) → m < k → nat_le k m ≡ not (nat_lt m (a + k))
fits_none a k m h = grind (arith, nat_tests)

-- as many counts as the rows leave room for
pub fits_then : (d : DeltaValue) (b : Bool) → length d.live ≤ 65536 → b ≡ nat_le (counts_in d.older) (65536 - length d.live) → b ≡ fits_line One d
fits_then d b few e =
    rw (length_run_dots d.owner d.older) (e ∙ fits_rest (counts_in d.older) (length d.live) 65536 few)

-- too many rows
pub fits_else : (d : DeltaValue) → 65536 < length d.live → nat_le (length d.live) 65536 ≡ fits_line One d
fits_else d many = rw (length_run_dots d.owner d.older) (fits_none (counts_in d.older) (length d.live) 65536 many)

-- the older runs and the delta's range leave room for the rows
length_ranges : (r : Replica) (rs : List (ℕ × ℕ)) (g : Range) → length (run_ranges r rs ++ g ∷ []) ≡ suc (length rs)
length_ranges r [] g = refl
length_ranges r (x ∷ xs) g = ap suc (length_ranges r xs g)

room_then : (rows runs : ℕ) → rows < 65536 → nat_lt runs (65536 - rows) ≡ not (nat_lt 65536 (suc runs + (0 + rows)))
room_then rows runs h = grind (arith, nat_tests)

room_else : (rows runs : ℕ) → 65536 ≤ rows → nat_lt rows 65536 ≡ not (nat_lt 65536 (suc runs + (0 + rows)))
room_else rows runs h = grind (arith, nat_tests)

pub runs_fit_then : (d : DeltaValue) → length d.live < 65536 → nat_lt (length d.older) (65536 - length d.live) ≡ fits_line Two d
runs_fit_then d few = rw (length_ranges d.owner d.older (d.owner, d.from, d.to)) (room_then (length d.live) (length d.older) few)

pub runs_fit_else : (d : DeltaValue) → 65536 ≤ length d.live → nat_lt (length d.live) 65536 ≡ fits_line Two d
runs_fit_else d many = rw (length_ranges d.owner d.older (d.owner, d.from, d.to)) (room_else (length d.live) (length d.older) many)
