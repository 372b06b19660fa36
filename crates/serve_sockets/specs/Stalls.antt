-- What writes take of what is sent, and which client keeps pace.
use Rattle.std.specs.Prelude.{◌≡◌, ◌+◌, ◌-◌, ◌^◌, ◌&&◌, ℕ, Bool, leb, Result, Ok, Err, min}
use Rattle.serve_sockets.specs.declared.stream.Stall.{Stall}
use Rattle.serve_sockets.specs.declared.stream.TheConstants.{PACE_BYTES}

-- A write adds what it took, and a read what it gave, up to 2^64 - 1, and nothing where it fails.
abbrev pub Takes : {E : Type 0} → ℕ → ℕ → Result ℕ E → Type 0
Takes old new (Ok count) = new ≡ min (old + count) (2 ^ 64 - 1)
Takes old new (Err e) = new ≡ old

-- so many bytes more, up to 2^64 - 1
abbrev pub later : ℕ → ℕ → ℕ
later taken more = min (taken + more) (2 ^ 64 - 1)

-- Since this was noted the frame that was first has gone, and `PACE_BYTES` at least.
abbrev pub keeps_pace : Stall → ℕ → Bool
keeps_pace noted taken = leb noted.goal taken && leb (later noted.taken PACE_BYTES) taken

-- what is noted at this time, where so much was taken and so much is to go of the frame that is first
abbrev pub noted_at : ℕ → ℕ → ℕ → Stall
noted_at taken front now = record { since = now; taken = taken; goal = later taken front }
