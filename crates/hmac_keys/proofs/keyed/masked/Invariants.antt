use Rattle.std.proofs.Common.{◌≡◌, ℕ, ◌<◌, get_or, bit_xor, length}
use Rattle.hmac_keys.proofs.keyed.masked.Given as goal

-- the bytes so far are masked
abbrev pub invariant-loop-i : goal.invariant-loop-i
invariant-loop-i l = (length l.out ≡ 64) × ((k : ℕ) → k < l.i → get_or l.out k 0 ≡ bit_xor (get_or l.block k 0) l.pad)
