-- When the receipts of all seats and the journals of all shards agree. The receipts of seat i stand at place i.
use Rattle.std.specs.Prelude.{◌≡◌, ◌+◌, ℕ, zero, suc, List, [], ◌∷◌, Bool, true, false, ◌&&◌, length, cond, nat_eq, nat_lt, Option, Some, None, slice_get}
use Rattle.presence_journal.specs.declared.entry.Entry.{Entry}
use Rattle.presence_journal.specs.History.{History}
use Rattle.shard_pool_settled.specs.declared.receipt.Receipt.{Receipt}
use Rattle.shard_pool_settled.specs.Alike.{same_step, same_outcome}
use Rattle.shard_pool_settled.specs.Seated.{entry_at, one_if, seated}

abbrev pub is_seat : ℕ → Option ℕ → Bool
is_seat i (Some seat) = nat_eq seat i
is_seat i None = false

-- is this the entry of the receipt, which seat i keeps?
abbrev pub is_entry : ℕ → Receipt → Option Entry → Bool
is_entry i r (Some e) = is_seat i e.seat && (same_step r.step e.step && same_outcome r.outcome e.outcome)
is_entry i r None = false

abbrev pub is_in : ℕ → Receipt → Option History → Bool
is_in i r (Some h) = is_entry i r (entry_at h r.number)
is_in i r None = false

-- the entry of the receipt's number at its shard has its seat, step and outcome
abbrev pub is_told : List History → ℕ → Receipt → Bool
is_told js i r = is_in i r (slice_get js r.shard)

abbrev pub all_told : List History → ℕ → List Receipt → Bool
all_told js i [] = true
all_told js i (r ∷ rs) = is_told js i r && all_told js i rs

abbrev pub seats_told : List History → ℕ → List (List Receipt) → Bool
seats_told js i [] = true
seats_told js i (rs ∷ rss) = all_told js i rs && seats_told js (i + 1) rss

-- the numbers at a shard rise, above n
abbrev pub rises : ℕ → ℕ → List Receipt → Bool
rises s n [] = true
rises s n (r ∷ rs) = cond (nat_eq r.shard s) (nat_lt n r.number && rises s r.number rs) (rises s n rs)

-- the numbers rise at each of the first shards
abbrev pub rises_at : ℕ → List Receipt → Bool
rises_at zero rs = true
rises_at (suc n) rs = rises_at n rs && rises n 0 rs

abbrev pub seats_rise : ℕ → List (List Receipt) → Bool
seats_rise n [] = true
seats_rise n (rs ∷ rss) = rises_at n rs && seats_rise n rss

-- how many receipts are of a shard
abbrev pub count_at : ℕ → List Receipt → ℕ
count_at s [] = 0
count_at s (r ∷ rs) = one_if (nat_eq r.shard s) + count_at s rs

abbrev pub receipts_at : ℕ → List (List Receipt) → ℕ
receipts_at s [] = 0
receipts_at s (rs ∷ rss) = count_at s rs + receipts_at s rss

-- each receipt stands in the journal of its shard, and each seat's stand there in their order
abbrev pub are_told : List History → List (List Receipt) → Bool
are_told js rss = seats_told js 0 rss && seats_rise (length js) rss

-- from the shard s on there are as many seated entries as receipts
abbrev pub are_counted : ℕ → List History → List (List Receipt) → Bool
are_counted s [] rss = true
are_counted s (h ∷ hs) rss = nat_eq (seated h) (receipts_at s rss) && are_counted (s + 1) hs rss

-- the receipts stand in the journals, and are as many as the seated entries
pub record Agree (js : List History) (rss : List (List Receipt)) : Type 0 where
  pub told : are_told js rss ≡ true
  pub count : are_counted 0 js rss ≡ true

-- the counts differ, and nothing else does
pub record CountsDiffer (js : List History) (rss : List (List Receipt)) : Type 0 where
  pub told : are_told js rss ≡ true
  pub count : are_counted 0 js rss ≡ false
