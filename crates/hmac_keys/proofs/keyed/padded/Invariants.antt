use Rattle.std.proofs.Common.{◌≡◌, ℕ, ◌<◌, ◌≤◌, get_or, length}
use Rattle.hmac_keys.proofs.keyed.padded.Given as goal

-- the bytes so far are the key's, and zeros follow
abbrev pub invariant-loop-i : goal.invariant-loop-i
invariant-loop-i l = (length l.block ≡ 64) × ((k : ℕ) → k < l.i → get_or l.block k 0 ≡ get_or l.key k 0) × ((k : ℕ) → l.i ≤ k → get_or l.block k 0 ≡ 0)
