-- How an entry turns what is shown.
use Rattle.std.specs.Prelude.{◌≡◌}
use Rattle.presence_journal.specs.declared.step.Step.{Step}
use Rattle.presence_journal.specs.declared.entry.Entry.{Entry}
use Rattle.presence_journal.specs.History.{History, Then}
use Rattle.presence_journal.specs.Table.{IsLegal}
use Rattle.tracker_shown.specs.declared.turn.Turn.{Turn}
use Rattle.tracker_shown.specs.Turns.{IsTurn}
use Rattle.tracker_known.specs.declared.known.Known.{Known}
use Rattle.tracker_known.specs.Known.{IsKnownOf}

-- the turn of the entry, where k is known before it
abbrev pub TurnsEntry : Known → Entry → Turn → Type 0
TurnsEntry k e t = (h : History) → IsLegal (Then h e) → IsKnownOf h k → IsTurn h e t

-- the same, of any entry of the step
abbrev pub TurnsStep : Known → Step → Turn → Type 0
TurnsStep k s t = (h : History) (e : Entry) → e.step ≡ s → IsLegal (Then h e) → IsKnownOf h k → IsTurn h e t
