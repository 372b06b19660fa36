-- What an accepted end leaves behind of a session in a lent shard: nothing.
use Rattle.std.specs.Prelude.{◌≡◌, ℕ, Bool, true, false, List, Some, Ok}
use Rattle.std.specs.List.{AllByRecursion, list_any}
use Rattle.std.specs.FinMap as map
use Rattle.presence_base.specs.declared.row.Row.{Row}
use Rattle.presence_base.specs.Order.{same_text}
use Rattle.presence_journal.specs.declared.rows.Place.{Place}
use Rattle.presence_journal.specs.History.{History}
use Rattle.presence_journal.specs.Present.{present}
use Rattle.presence_journal.specs.Table.{IsLegal, is_mine}
use Rattle.tracker_shard.specs.Steps.{is_found}
use Rattle.channel_rules.specs.InForce.{Joined, InForce}
use Rattle.presence_stdio.specs.Local.{LocalStep}
use Rattle.channel_session.specs.Ending.{EndedBy, topics_named}

-- the topic is one of these
abbrev pub is_named : List ℕ → List (List ℕ) → Bool
is_named t ts = list_any (same_text t) ts

-- each own row of the pid that is present stands on one of these topics
abbrev pub StandsOn : List (List ℕ) → ℕ → History → Type 0
StandsOn ts pid h = (t : List ℕ) (p : Place) (r : Row) → map.get (present h t) p ≡ Some r
    → is_mine h pid (p.dot, r) ≡ true → is_named t ts ≡ true

-- the join's subscriber is no more
abbrev pub IsOver : History → Joined → Type 0
IsOver h j = is_found h j.sub.slot j.sub.number ≡ false

pub record LeavesNothing (s : InForce) (h : History) : Type 0 where
  -- no own row of the session's pid is present
  pub rows : (t : List ℕ) (p : Place) (r : Row) → map.get (present h t) p ≡ Some r → is_mine h s.pid (p.dot, r) ≡ false
  pub subscribers : AllByRecursion (IsOver h) s.joined

-- A session that names each topic on which a row of its pid stands leaves nothing behind by an accepted end.
abbrev pub EndLeavesNothing : Type 0
EndLeavesNothing =
    (s after : InForce) (old new : History) → IsLegal old → StandsOn (topics_named s) s.pid old
    → EndedBy (LocalStep s.pid) s old new after (Ok tt)
    → LeavesNothing s new
