-- Which rows join and leave with an entry.
use Rattle.std.specs.Prelude.{◌≡◌, false, List, Option, Some, None}
use Rattle.std.specs.Map.{lookup}
use Rattle.presence_base.specs.declared.dots.Dot.{Dot}
use Rattle.presence_base.specs.declared.row.Row.{Row}
use Rattle.presence_base.specs.Order.{same_dot}
use Rattle.orswot_core.specs.Checks.{has_repeat, dots_of}
use Rattle.presence_journal.specs.declared.entry.Entry.{Entry}
use Rattle.presence_journal.specs.History.{History, Then, shown}
use Rattle.tracker_shown.specs.declared.turn.Turn.{Turn}

-- what is there now and was not before
abbrev pub came : Option Row → Option Row → Option Row
came None now = now
came (Some r) now = None

-- the row that an entry shows under a dot, and the one that it hides
abbrev pub joins_at : History → Entry → Dot → Option Row
joins_at h e d = came (shown h d) (shown (Then h e) d)

abbrev pub leaves_at : History → Entry → Dot → Option Row
leaves_at h e d = came (shown (Then h e) d) (shown h d)

-- the list gives f at each dot, each dot once
pub record IsListOf (f : Dot → Option Row) (xs : List (Dot × Row)) : Type 0 where
  pub found : (d : Dot) → lookup (same_dot d) xs ≡ f d
  pub once : has_repeat same_dot (dots_of xs) ≡ false

-- each dot whose row the entry shows or hides, and no other
pub record IsTurn (h : History) (e : Entry) (t : Turn) : Type 0 where
  pub joins : IsListOf (joins_at h e) t.joins.items
  pub leaves : IsListOf (leaves_at h e) t.leaves.items
