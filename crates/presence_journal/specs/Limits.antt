-- What a shout may send, and how many items a take may give.
use Rattle.std.specs.Prelude.{ℕ, Bool, not, ◌&&◌, nat_le}
use Rattle.serde_json.specs.Data.{Data, depth}
use Rattle.serde_json.specs.Written.{has_float}
use Rattle.presence_journal.specs.declared.limits.TheConstants.{MAX_PAYLOAD_DEPTH, MAX_TAKEN}

-- a value of at most this depth whose numbers are whole ones of 64 bits
abbrev pub is_payload : Data → Bool
is_payload d = nat_le (depth d) MAX_PAYLOAD_DEPTH && not (has_float d)

abbrev pub is_take_limit : ℕ → Bool
is_take_limit n = nat_le 1 n && nat_le n MAX_TAKEN
