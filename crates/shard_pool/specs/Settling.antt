-- The seats of a pool by their numbers, and the journals that it hands back.
use Rattle.std.specs.Prelude.{◌≡◌, ◌==◌, ◌<◌, ℕ, zero, suc, List, [], ◌∷◌, ◌++◌, Bool, true, false, ◌&&◌, ◌||◌, cond, length, All}
use Rattle.presence_journal.specs.History.{History}
use Rattle.shard_pool_settled.specs.declared.receipt.Receipt.{Receipt}
use Rattle.shard_pool.specs.Unseated.{IsOf}
use Rattle.shard_pool.specs.Seats.{Hands}

-- the receipts of a seat, shard by shard
abbrev pub receipts_of : Hands → List Receipt
receipts_of h = h.first.receipts ++ h.second.receipts ++ h.third.receipts ++ h.fourth.receipts

abbrev pub has_seat : List Hands → ℕ → Bool
has_seat [] n = false
has_seat (h ∷ hs) n = (h.number == n) || has_seat hs n

-- the receipts of the seat of a number
abbrev pub found : List Hands → ℕ → List Receipt
found [] n = []
found (h ∷ hs) n = cond (h.number == n) (receipts_of h) (found hs n)

-- the receipts of the seats below a number, in order
abbrev pub by_number : List Hands → ℕ → List (List Receipt)
by_number hs zero = []
by_number hs (suc n) = by_number hs n ++ found hs n ∷ []

abbrev pub has_seats : List Hands → ℕ → Bool
has_seats hs zero = true
has_seats hs (suc n) = has_seats hs n && has_seat hs n

-- a seat below the number isn't among them
abbrev pub IsMissing : List Hands → ℕ → Type 0
IsMissing hs count = (k : ℕ) × (k < count) × (has_seat hs k ≡ false)

-- the journals of this many shards of the node
pub record AreOf (node : List ℕ) (count : ℕ) (js : List History) : Type 0 where
  pub legal : All (IsOf node) js
  pub shards : length js ≡ count

-- each is a history of the shard of its place, counted from this number; `here` tells which are those of a shard's number
abbrev pub ArePlaced : (ℕ → History → Type 0) → ℕ → List History → Type 0
ArePlaced here n [] = Unit {0}
ArePlaced here n (j ∷ js) = here n j × ArePlaced here (suc n) js
