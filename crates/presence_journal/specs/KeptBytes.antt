-- How many bytes a history's entries keep beside themselves.
use Rattle.std.specs.Prelude.{ℕ, ◌+◌, List, [], ◌∷◌}
use Rattle.presence_journal.specs.EntryBytes.{entry_bytes}
use Rattle.presence_journal.specs.Steps.{Entry}
use Rattle.presence_journal.specs.History.{History, Begin, Then}

abbrev pub entries_bytes : List Entry → ℕ
entries_bytes [] = 0
entries_bytes (e ∷ es) = entry_bytes e.step e.outcome + entries_bytes es

-- those of the Start, which stays where a journal begins again, are not counted
abbrev pub kept_bytes : History → ℕ
kept_bytes (Begin s) = 0
kept_bytes (Then h e) = kept_bytes h + entry_bytes e.step e.outcome
