-- A seat at one shard: what it keeps of its calls there.
use Rattle.std.specs.Prelude.{◌+◌, ℕ, zero, suc, List, [], ◌∷◌, ◌++◌, nat_lt, filter}
use Rattle.presence_journal.specs.declared.step.Step.{Step}
use Rattle.presence_journal.specs.declared.entry.Outcome.{Outcome}
use Rattle.shard_pool_settled.specs.declared.receipt.Receipt.{Receipt}

-- the seat's number, the shard's, the receipts there in order, and how many calls the seat made there
pub record Hand : Type 0 where
  pub seat : ℕ
  pub shard : ℕ
  pub receipts : List Receipt
  pub share : ℕ

abbrev pub receipt : ℕ → ℕ → Step → Outcome → Receipt
receipt s n step o = record { shard = s; number = n; step = step; outcome = o }

-- one call more
abbrev pub with_call : Hand → Receipt → Hand
with_call h r = record { seat = h.seat; shard = h.shard; receipts = h.receipts ++ r ∷ []; share = h.share + 1 }

-- the receipts numbered above n
abbrev pub above : ℕ → List Receipt → List Receipt
above n = filter (λ r. nat_lt n r.number)

-- the hand that forgets its receipts up to a number
abbrev pub without_receipts : Hand → ℕ → Hand
without_receipts h n = record { seat = h.seat; shard = h.shard; receipts = above n h.receipts; share = h.share }

-- no call yet
abbrev pub new_hand : ℕ → ℕ → Hand
new_hand seat shard = record { seat = seat; shard = shard; receipts = []; share = 0 }

-- a new hand for each seat from 0
abbrev pub new_hands : ℕ → ℕ → List Hand
new_hands shard zero = []
new_hands shard (suc n) = new_hands shard n ++ new_hand n shard ∷ []
