-- A journal that begins again, with a Start that stands for its history.
use Rattle.std.specs.Prelude.{◌≡◌, ℕ, ◌+◌, Bool, true, false, List, [], ◌∷◌, is_some}
use Rattle.presence_journal.specs.declared.entry.Entry.{Entry}
use Rattle.presence_journal.specs.declared.entry.Start.{Start}
use Rattle.presence_journal.specs.History.{History, Begin, Then}
use Rattle.presence_journal.specs.Queue.{CurrentStay, AllAreBehind}
use Rattle.presence_journal_cuts.specs.Checkpoints.{IsCheckpoint, CountsCurrent}
pub use Rattle.presence_base.specs.Choices.{one_if}

-- how many of these entries were made through seats
abbrev pub seats_in : List Entry → ℕ
seats_in [] = 0
seats_in (e ∷ es) = one_if (is_some e.seat) + seats_in es

-- how many entries were made through seats, those that came before the Start among them
unfoldable pub seats : History → ℕ
seats (Begin s) = s.seated
seats (Then h e) = seats h + one_if (is_some e.seat)

-- a Start that stands for the history, and counts its seats
pub record IsStartOf (h : History) (s : Start) : Type 0 where
  pub stands : IsCheckpoint h s
  pub seats : s.seated ≡ seats h

-- whom a Start counts as current: each for whom nothing waits, where these are to stay so, or nobody
abbrev pub CountsWhere : Bool → History → Start → Type 0
CountsWhere true h s = CountsCurrent h s
CountsWhere false h s = s.current ≡ []

-- and what it then leaves waiting
abbrev pub LeavesQueues : Bool → History → History → Type 0
LeavesQueues true h g = CurrentStay h g
LeavesQueues false h g = AllAreBehind g

-- the history is such a Start
pub record IsBegunAgain (h g : History) : Type 0 where
  pub start : Start
  pub begins : g ≡ Begin start
  pub stands : IsStartOf h start
