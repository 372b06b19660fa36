-- When a journal is due for a checkpoint.
use Rattle.std.specs.Prelude.{◌≡◌, ◌-◌, ◌^◌, ◌||◌, ℕ, List, Bool, if◌then◌else◌, leb, min, nat_lt}
use Rattle.presence_journal.specs.History.{entry_count}
use Rattle.presence_journal.specs.KeptBytes.{kept_bytes}
use Rattle.shard_pool.specs.Unseated.{IsBehind}
use Rattle.presence_server.specs.declared.load.Load.{Load}
use Rattle.presence_server.specs.declared.load.TheConstants.{DUE_ENTRIES, DUE_ENTRIES_AT_REST, DUE_TEXT_BYTES, TIGHT_ENTRIES}

-- With how many entries: fewer where nobody follows a topic of its shard, whom it would tell, and fewer still where memory is tight.
abbrev pub due_entries : Load → Bool → ℕ
due_entries load is_tight =
    if is_tight then TIGHT_ENTRIES else if nat_lt 0 load.topics then DUE_ENTRIES else DUE_ENTRIES_AT_REST

-- or with how many bytes that they keep: those that lists took for dots count as theirs
abbrev pub due_bytes : Load → ℕ
due_bytes load = DUE_TEXT_BYTES - load.list_bytes

-- It is due by the one or the other, and else it isn't.
abbrev pub is_due : Load → Bool → Bool
is_due load is_tight = leb (due_entries load is_tight) load.entries || leb (due_bytes load) load.kept_bytes

-- Some legal history of the node has so many entries, and those of some such history keep so many bytes.
pub record IsLoadOf (node : List ℕ) (load : Load) : Type 0 where
  pub counted : IsBehind node (λ h. load.entries ≡ entry_count h)
  pub weighed : IsBehind node (λ h. load.kept_bytes ≡ min (kept_bytes h) (2 ^ 64 - 1))
