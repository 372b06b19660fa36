-- How much memory a buffer keeps, and how much may wait in it.
use Rattle.std.specs.Prelude.{◌≡◌, ◌≤◌, ◌<◌, ◌+◌, ℕ, List, [], length, drop, Vec, vec_capacity}
use Rattle.std.specs.Global.{Global}
use Rattle.serve_sockets.specs.declared.buffer.TheConstants.{KEPT_BYTES}
use Rattle.serve_sockets.specs.declared.web_socket.TheConstants.{MAX_WAITING}

-- So many bytes are gone from the front of the buffer; where nothing waits in it, it holds little memory.
abbrev pub IsKept : ℕ → Vec ℕ Global → Type 0
IsKept gone bytes =
    (gone ≤ length bytes.items) × (drop gone bytes.items ≡ [] → vec_capacity bytes ≤ KEPT_BYTES)

-- so many bytes more would be more than may wait
abbrev pub HasNoRoom : List ℕ → ℕ → Type 0
HasNoRoom waiting more = MAX_WAITING < length waiting + more
