-- Which entry of a history has a number, and how many have a seat.
use Rattle.std.specs.Prelude.{ℕ, ◌+◌, Bool, true, false, cond, nat_eq, List, [], ◌∷◌, Option, Some, None, is_some}
use Rattle.presence_journal.specs.declared.entry.Entry.{Entry}
use Rattle.presence_journal.specs.History.{History, Begin, Then}
pub use Rattle.presence_base.specs.Choices.{one_if}

unfoldable pub entry_at : History → ℕ → Option Entry
entry_at (Begin s) n = None
entry_at (Then h e) n = cond (nat_eq e.number n) (Some e) (entry_at h n)

-- the seated entries above the Start
unfoldable pub seated : History → ℕ
seated (Begin s) = 0
seated (Then h e) = seated h + one_if (is_some e.seat)

-- the same of entries in order, the oldest first
abbrev pub seated_in : List Entry → ℕ
seated_in [] = 0
seated_in (e ∷ es) = one_if (is_some e.seat) + seated_in es
