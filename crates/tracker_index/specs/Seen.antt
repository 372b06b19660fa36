-- What is seen of a journal with what is kept of it.
use Rattle.std.specs.Prelude.{Bool}
use Rattle.presence_journal.specs.History.{History}

-- the journal's history, and whether all that is kept has come up to its last entry
pub record Seen : Type 0 where
  pub history : History
  pub is_ready : Bool
