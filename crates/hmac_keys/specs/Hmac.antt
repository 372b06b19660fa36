-- HMAC with SHA-256: RFC 2104, section 2, FIPS 198-1, RFC 6234.
use Rattle.std.specs.Prelude.{ℕ, ◌-◌, List, ◌++◌, length, map, replicate, bit_xor, nat_le, if◌then◌else◌}
use Rattle.sha2.specs.Sha256.{sha256}
use Rattle.sha2.specs.Hashers.{Holds256}
use Rattle.hmac_keys.specs.declared.keyed.Hmac.{Hmac}

-- a key that is longer than a block gives way to its digest
abbrev pub short_key : List ℕ → List ℕ
short_key key = if nat_le (length key) 64 then key else sha256 key

-- with zeros behind it, up to a block of 64 bytes
abbrev pub padded : List ℕ → List ℕ
padded key = key ++ replicate (64 - length key) 0

-- K, as one block
abbrev pub block_key : List ℕ → List ℕ
block_key key = padded (short_key key)

-- K XOR ipad, or K XOR opad: each byte with this one
abbrev pub masked : ℕ → List ℕ → List ℕ
masked pad block = map (λ b. bit_xor b pad) block

-- H(K XOR opad, H(K XOR ipad, text))
unfoldable pub hmac_sha256 : List ℕ → List ℕ → List ℕ
hmac_sha256 key text = sha256 (masked 0x5C (block_key key) ++ sha256 (masked 0x36 (block_key key) ++ text))

-- what a code that is being made has taken in, under this key
pub record Holds (code : Hmac) (key text : List ℕ) : Type 0 where
  pub inner : Holds256 code.inner (masked 0x36 (block_key key) ++ text)
  pub outer : Holds256 code.outer (masked 0x5C (block_key key))
