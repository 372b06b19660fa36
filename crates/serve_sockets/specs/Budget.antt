-- How much a turn may still read.
use Rattle.std.specs.Prelude.{◌≡◌, ◌⊎◌, ◌+◌, ℕ, Result, Ok, Err}
use Rattle.serve_sockets.specs.declared.stream.TheConstants.{LONG_TURN_BYTES, TURN_BYTES}

-- as much as one turn may read
abbrev pub IsTurn : ℕ → Type 0
IsTurn bytes = (bytes ≡ TURN_BYTES) ⊎ (bytes ≡ LONG_TURN_BYTES)

-- A read takes what it gives from what is left. What is left grows by a read that fails alone, with which a turn ends.
abbrev pub Spends : {E : Type 0} → ℕ → ℕ → Result ℕ E → Type 0
Spends old new (Ok count) = new + count ≡ old
Spends old new (Err e) = (new ≡ old) ⊎ IsTurn new
