-- Which lines are long.
use Rattle.std.specs.Prelude.{ℕ, Bool, not, leb}
use Rattle.link_streams.specs.declared.stream.TheConstants.{LONG_LINE_BYTES}

-- one of more bytes than that
abbrev pub is_long_line : ℕ → Bool
is_long_line bytes = not (leb bytes LONG_LINE_BYTES)
