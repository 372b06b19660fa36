-- A seat that is trimmed shard by shard.
use Rattle.std.proofs.Common.{◌≡◌, ℕ, List}
use Rattle.presence_journal.specs.History.{History}
use Rattle.shard_pool.specs.Hands.{without_receipts}
use Rattle.shard_pool.specs.Seats.{Hands, IsStartOf, IsTrimmed}

pub trimmed : (node : List ℕ) (Begins : ℕ → History → Type 0) (old new : Hands) (a b c d : ℕ)
    → IsStartOf node (Begins 0) a → IsStartOf node (Begins 1) b → IsStartOf node (Begins 2) c → IsStartOf node (Begins 3) d
    → new ≡ record { number = old.number; first = without_receipts old.first a; second = without_receipts old.second b; third = without_receipts old.third c; fourth = without_receipts old.fourth d }
    → IsTrimmed node Begins old new
trimmed node Begins old new a b c d first second third fourth forgets = record { first = a; second = b; third = c; fourth = d; starts = (first, second, third, fourth); forgets = forgets }
