-- Which rows a journal's Start shows.
use Rattle.std.specs.Prelude.{List}
use Rattle.std.specs.List.{filter}
use Rattle.presence_base.specs.declared.dots.Dot.{Dot}
use Rattle.presence_base.specs.declared.row.Row.{Row}
use Rattle.presence_journal.specs.declared.entry.Start.{Start}
use Rattle.presence_journal.specs.History.{Begin, is_up, status}
use Rattle.tracker_shown.specs.Kept.{Kept}
use Rattle.tracker_shown.specs.ShownTurns.{PutsAll}

-- those of replicas that are up
abbrev pub up_rows : Start → List (Dot × Row) → List (Dot × Row)
up_rows s xs = filter (λ (x : Dot × Row). is_up (status (Begin s) x.0.replica)) xs

-- n has them too
abbrev pub PutsUp : Start → List (Dot × Row) → Kept → Kept → Type 0
PutsUp s xs m n = PutsAll s.own (up_rows s xs) m n
