-- What a shard knows of its history: the set of covered dots and their live rows, the standings of the others, the count.
use Rattle.std.specs.Prelude.{◌≡◌, cond, nat_lt, ◌^◌, List, Option, Some, None}
use Rattle.std.specs.List.Sorted.{IsStrictlySortedBy}
use Rattle.std.specs.Map.{lookup, keys_of}
use Rattle.presence_base.specs.declared.dots.Replica.{Replica}
use Rattle.presence_base.specs.declared.dots.Dot.{Dot}
use Rattle.presence_base.specs.declared.row.Row.{Row}
use Rattle.presence_base.specs.Order.{dot_cmp, same_replica, same_dot}
use Rattle.presence_journal.specs.declared.step.Step.{Step}
use Rattle.presence_journal.specs.declared.entry.Entry.{Entry}
use Rattle.presence_journal.specs.History.{History, Then, count, status, live, is_gone, next_dot}
use Rattle.presence_journal.specs.Table.{IsLegal}
use Rattle.presence_journal_known.specs.LeftOut.{HoldsCovered}
use Rattle.tracker_known.specs.declared.known.Known.{Known}
use Rattle.tracker_known.specs.Standings.{AreOthersOf}

-- the live row of a dot, where its replica is not gone
abbrev pub kept : History → Dot → Option Row
kept h d = cond (is_gone (status h d.replica)) None (live h d)

-- what is known after a history
pub record IsKnownOf (h : History) (k : Known) : Type 0 where
  pub set : HoldsCovered h k.set
  pub others : AreOthersOf h k.others
  pub count : k.count ≡ count h

-- the entry can follow a legal history of which this is known
pub record CanFollow (k : Known) (e : Entry) : Type 0 where
  pub before : History
  pub legal : IsLegal (Then before e)
  pub known : IsKnownOf before k

-- this is known of a legal history
pub record IsOfOne (k : Known) : Type 0 where
  pub history : History
  pub legal : IsLegal history
  pub known : IsKnownOf history k

-- what is known after the entry, where k was known before it
abbrev pub Follows : Known → Entry → Known → Type 0
Follows k e l = (h : History) → IsLegal (Then h e) → IsKnownOf h k → IsKnownOf (Then h e) l

-- the same, after any entry of the step
abbrev pub FollowsStep : Known → Step → Known → Type 0
FollowsStep k s l = (h : History) (e : Entry) → e.step ≡ s → IsLegal (Then h e) → IsKnownOf h k → IsKnownOf (Then h e) l

-- l knows what k knew
abbrev pub Stays : Known → Known → Type 0
Stays k l = (h : History) → IsKnownOf h k → IsKnownOf h l

-- the dot of the next count, where one is left
abbrev pub next_left : History → Option Dot
next_left h = cond (nat_lt (count h) (2 ^ 62)) (Some (next_dot h)) None

-- the rows that are kept of a replica, in order of dot
pub record AreRowsOf (h : History) (r : Replica) (es : List (Dot × Row)) : Type 0 where
  pub found : (d : Dot) → lookup (same_dot d) es ≡ cond (same_replica d.replica r) (kept h d) None
  pub in_order : IsStrictlySortedBy dot_cmp (keys_of es)
