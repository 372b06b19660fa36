-- Lists that are made place by place.
use Rattle.std.proofs.Common.{◌≡◌, ℕ, zero, suc, ◌<◌, ◌≤◌, ◌+◌, List, length, get_or, replicate, bit_xor, set, arith, refl}
use Rattle.std.proofs.lemmas.List.{same_lists, get_or-map, length-map, get_or-set_same, get_or-set_other, get_or_default, places}
use Rattle.hmac_keys.specs.Hmac.{masked, padded}

-- at each place the masked byte: all is masked
pub masked_at_each : (out block : List ℕ) (pad : ℕ) → length out ≡ length block
    → ((k : ℕ) → k < length out → get_or out k 0 ≡ bit_xor (get_or block k 0) pad) → out ≡ masked pad block
masked_at_each out block pad same each =
    same_lists out (masked pad block) (grind (arith, length-map block (λ b. bit_xor b pad))) (λ k d low.
    let left : get_or out k d ≡ get_or out k 0 = get_or_default out k d 0 low in
    let right : get_or (masked pad block) k d ≡ bit_xor (get_or block k 0) pad = get_or-map (λ b. bit_xor b pad) block k 0 d (omega arith) in
    grind (arith, left, right, each k low))

-- at each place the key's byte, and zeros behind it
pub padded_at_each : (out key : List ℕ) → length out ≡ 64 → length key ≤ 64
    → ((k : ℕ) → k < length key → get_or out k 0 ≡ get_or key k 0)
    → ((k : ℕ) → length key ≤ k → get_or out k 0 ≡ 0) → out ≡ padded key
padded_at_each out key long short each behind =
    same_lists out (padded key) (grind (arith, places)) (λ k d low.
    let left : get_or out k d ≡ get_or out k 0 = get_or_default out k d 0 low in
    grind (arith, places, left, each k, behind k))

-- one place more
pub masks_more : (out block : List ℕ) (i pad : ℕ) → i < length out
    → ((k : ℕ) → k < i → get_or out k 0 ≡ bit_xor (get_or block k 0) pad)
    → (k : ℕ) → k < i + 1 → get_or (set out i (bit_xor (get_or block i 0) pad)) k 0 ≡ bit_xor (get_or block k 0) pad
masks_more out block i pad low before = λ k next. grind (arith, get_or-set_same, get_or-set_other, before k)

-- zeros alone
pub zeros : (n k : ℕ) → get_or {A = ℕ} (replicate n 0) k 0 ≡ 0
zeros zero k = refl
zeros (suc n) zero = refl
zeros (suc n) (suc k) = zeros n k
