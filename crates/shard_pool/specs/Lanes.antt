-- What each of four shards begins with.
use Rattle.std.specs.Prelude.{ℕ, zero, suc}
use Rattle.presence_journal.specs.History.{History}

-- what the shard of a number begins with
abbrev pub begins_at : (First Second Third Fourth : History → Type 0) → ℕ → History → Type 0
begins_at First Second Third Fourth zero = First
begins_at First Second Third Fourth (suc zero) = Second
begins_at First Second Third Fourth (suc (suc zero)) = Third
begins_at First Second Third Fourth (suc (suc (suc n))) = Fourth

-- each shard may begin with this
abbrev pub AllBegin : (First Second Third Fourth : History → Type 0) → History → Type 0
AllBegin First Second Third Fourth h = First h × Second h × Third h × Fourth h
