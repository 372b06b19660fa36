-- Whether a journal is due for a checkpoint.
use Rattle.std.specs.Prelude.{◌≤◌, ◌<◌, ◌⊎◌, Bool, true, false}
use Rattle.presence_journal.specs.History.{History, entry_count}
use Rattle.presence_journal.specs.KeptBytes.{kept_bytes}
use Rattle.shard_pool.specs.declared.due.DueFrom.{DueFrom}

-- the journal has so many entries, its Start counted, or its entries keep so many bytes beside themselves
pub record HasMany (due : DueFrom) (h : History) : Type 0 where
  pub many : (due.entries ≤ entry_count h) ⊎ (due.kept_bytes ≤ kept_bytes h)

-- it has so many or fewer of both
abbrev pub TellsMany : DueFrom → History → Bool → Type 0
TellsMany due h true = HasMany due h
TellsMany due h false = (entry_count h < due.entries) × (kept_bytes h < due.kept_bytes)
