-- When memory is tight, and when it is wanting.
use Rattle.std.specs.Prelude.{ℕ, ◌-◌, ◌/◌, Bool, ◌||◌, ◌&&◌, leb, nat_lt}
use Rattle.serve_rations.specs.declared.memory.TheConstants.{LACK_MILLISECONDS}

-- From nine tenths of what may be taken on, until fewer than eight are taken.
abbrev pub is_tight : Bool → ℕ → ℕ → Bool
is_tight was taken limit = leb (limit - limit / 10) taken || (was && leb (limit - limit / 10 - limit / 10) taken)

-- It came, and less than so long ago.
abbrev pub is_recent : ℕ → ℕ → Bool
is_recent came now = nat_lt 0 came && nat_lt (now - came) LACK_MILLISECONDS
