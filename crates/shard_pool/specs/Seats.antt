-- What a seat keeps of its calls at all shards, and what a call of the pool does to it.
use Rattle.std.specs.Prelude.{◌≡◌, ◌==◌, ◌%◌, ℕ, zero, suc, Bool, List, [], ◌∷◌, ◌++◌, cond, sum, Result}
use Rattle.presence_journal.specs.declared.step.Step.{Step}
use Rattle.presence_journal.specs.History.{History, start_of}
use Rattle.tracker_shard.specs.declared.fault.ShardFault.{ShardFault}
use Rattle.shard_pool.specs.declared.reply.Reply.{Reply}
use Rattle.shard_pool.specs.Lines.{IsOfShard}
use Rattle.shard_pool.specs.Hands.{Hand, new_hand, without_receipts}
use Rattle.shard_pool.specs.Seated.{Called}
use Rattle.shard_pool.specs.Unseated.{IsBehindOf}

-- a seat at each shard
pub record Hands : Type 0 where
  pub number : ℕ
  pub first : Hand
  pub second : Hand
  pub third : Hand
  pub fourth : Hand

abbrev pub new_seat : ℕ → Hands
new_seat n =
    record { number = n; first = new_hand n 0; second = new_hand n 1; third = new_hand n 2; fourth = new_hand n 3 }

-- a new seat for each number from 0
abbrev pub new_seats : ℕ → List Hands
new_seats zero = []
new_seats (suc n) = new_seats n ++ new_seat n ∷ []

-- each part is of the seat, and of its shard
abbrev pub IsSeated : Hands → Type 0
IsSeated h = (h.first.seat ≡ h.number) × (h.second.seat ≡ h.number) × (h.third.seat ≡ h.number)
    × (h.fourth.seat ≡ h.number) × (h.first.shard ≡ 0) × (h.second.shard ≡ 1) × (h.third.shard ≡ 2)
    × (h.fourth.shard ≡ 3)

-- the shard that has a topic
abbrev pub shard_of : List ℕ → ℕ → ℕ
shard_of topic shards = sum topic % shards

abbrev pub hand_at : Hands → ℕ → Hand
hand_at h s = cond (s == 0) h.first (cond (s == 1) h.second (cond (s == 2) h.third h.fourth))

-- a seat, with another hand at a shard
abbrev pub with_hand : Hands → ℕ → Hand → Hands
with_hand h s x =
    cond (s == 0) (record { number = h.number; first = x; second = h.second; third = h.third; fourth = h.fourth })
    (cond (s == 1) (record { number = h.number; first = h.first; second = x; third = h.third; fourth = h.fourth })
    (cond (s == 2) (record { number = h.number; first = h.first; second = h.second; third = x; fourth = h.fourth })
    (record { number = h.number; first = h.first; second = h.second; third = h.third; fourth = x })))

-- the seat that forgets its receipts at a shard up to a number
abbrev pub without_receipts_at : Hands → ℕ → ℕ → Hands
without_receipts_at h s n = with_hand h s (without_receipts (hand_at h s) n)

-- the histories of the shard of a number; `Begins` tells what each begins with
abbrev pub IsOfShardAt : List ℕ → (Begins : ℕ → History → Type 0) → ℕ → History → Type 0
IsOfShardAt node Begins shard = IsOfShard node (Begins shard)

-- some legal history of the shard of a number is such
abbrev pub IsBehindAt : (Begins : ℕ → History → Type 0) → ℕ → List ℕ → (History → Type 0) → Type 0
IsBehindAt Begins shard node Is = IsBehindOf (IsOfShardAt node Begins shard) Is

-- the number of the Start of some legal history of the shard
abbrev pub IsStartOf : List ℕ → (History → Type 0) → ℕ → Type 0
IsStartOf node Begins n = IsBehindOf (IsOfShard node Begins) (λ h. n ≡ (start_of h).number)

-- the seat that forgets its receipts up to the Start of each shard
pub record IsTrimmed (node : List ℕ) (Begins : ℕ → History → Type 0) (old new : Hands) : Type 0 where
  pub first : ℕ
  pub second : ℕ
  pub third : ℕ
  pub fourth : ℕ
  pub starts : IsStartOf node (Begins 0) first × IsStartOf node (Begins 1) second × IsStartOf node (Begins 2) third
      × IsStartOf node (Begins 3) fourth
  pub forgets : new ≡ record {
    number = old.number;
    first = without_receipts old.first first;
    second = without_receipts old.second second;
    third = without_receipts old.third third;
    fourth = without_receipts old.fourth fourth;
  }

-- the seat after a call at a shard: no other part is changed. `Here` tells which histories are those of a shard's number
pub record CalledAt {A : Type 0} (Here : ℕ → History → Type 0) (there : History → Bool) (old new : Hands) (s : ℕ) (step : Step)
    (Gives : History → A → Type 0) (r : Result (Reply A) ShardFault) : Type 0 where
  pub others : new ≡ with_hand old s (hand_at new s)
  pub shard : (hand_at old s).shard ≡ s
  pub call : Called (Here s) there (hand_at old s) (hand_at new s) step Gives r
