-- Hosts of peers.
use Rattle.std.specs.Prelude.{ℕ, List, length, drop, codes, Bool, cond, not, ◌&&◌, ◌==◌, nat_lt, bytes_eq}
use Rattle.presence_options.specs.Origins.{begins_with, behind}
use Rattle.presence_options.specs.declared.origin.Part.TheVariants.{Host, Mixed}

-- a name, or an IPv4 address: letters, digits, `-`, `.` and `_`
abbrev pub is_host_name : List ℕ → Bool
is_host_name text = not (length text == 0) && length (behind Host text) == 0

-- an IPv6 address and `]`: hexadecimal digits, `:` and `.`
abbrev pub is_bracketed_address : List ℕ → Bool
is_bracketed_address text = nat_lt (length (behind Mixed text)) (length text) && bytes_eq (behind Mixed text) (codes "]")

-- either, with `[` in front of an IPv6 address
unfoldable pub is_host : List ℕ → Bool
is_host text = cond (begins_with (codes "[") text) (is_bracketed_address (drop 1 text)) (is_host_name text)
