-- What a Start holds that stands for a history: all that later entries depend on.
use Rattle.std.specs.Prelude.{◌≡◌, ◌<◌, ◌≤◌, ◌+◌, ◌^◌, ℕ, true, false, cond, nat_eq, List, [], map, Option, Some, None}
use Rattle.std.specs.List.{AllByRecursion, list_all}
use Rattle.presence_base.specs.declared.dots.Replica.{Replica}
use Rattle.presence_base.specs.declared.dots.Dot.{Dot}
use Rattle.presence_base.specs.declared.row.Row.{Row}
use Rattle.presence_base.specs.Order.{same_replica}
use Rattle.dot_context.specs.Runs.{holds, AreLong}
use Rattle.orswot_core.specs.Checks.{has_repeat}
use Rattle.orswot_core.specs.Telling.{covers, live_row}
use Rattle.replica_status.specs.Boards.{standing_in}
use Rattle.presence_journal.specs.StepLimits.{is_heard}
use Rattle.presence_journal.specs.declared.entry.Start.{Start}
use Rattle.presence_journal.specs.History.{History, own, count, last_number, time, standing, status, is_gone, last_cut, covered, live, shown}
use Rattle.presence_journal.specs.Queue.{Queued, topic_at, topic_of, is_current, queue}
use Rattle.presence_journal.specs.Table.{IsLegal, is_subscriber}
use Rattle.presence_journal_cuts.specs.Chains.{AreUpTo, Counts}
use Rattle.presence_journal_cuts.specs.Cuts.{chain_in, chain, older}
use Rattle.presence_journal_cuts.specs.KeptDeltas.{AreKeptOf}

-- the live row of a dot, where its replica is not gone
abbrev pub kept_row : History → Dot → Option Row
kept_row h d = cond (is_gone (status h d.replica)) None (live h d)

-- each own row that is shown has its chain
abbrev pub ListsChains : History → List (ℕ × List (ℕ × ℕ)) → Type 0
ListsChains h xs = (d : Dot) (r : Row) → d.replica ≡ own h → shown h d ≡ Some r
    → chain_in xs d.count ≡ chain h d.count

-- and so has each count that is not used yet
abbrev pub ListsUnused : History → List (ℕ × List (ℕ × ℕ)) → Type 0
ListsUnused h xs = (c : ℕ) → count h < c → chain_in xs c ≡ chain h c

-- The Start has the next number. Of a replica that is gone only the standing is kept: its dots are not covered, and no row
-- of it is live. What a Start has for a count that is not used yet is the chain of the row that uses it: a wrong one would
-- make a later cut tell counts that never went. It counts as current only subscribers for which nothing waits: of any other it
-- would lose items. How many entries have a seat is counted above the journal; here it is
-- told only that they are no more than the numbers.
pub record StandsFor (h : History) (s : Start) : Type 0 where
  pub number : s.number ≡ last_number h + 1
  pub covers : (d : Dot) → covers s.content d ≡ covered h d
  pub rows : (d : Dot) → live_row s.content d ≡ kept_row h d
  pub sound : is_heard s.content ≡ true
  pub standings : (r : Replica) → same_replica r (own h) ≡ false → standing_in s.standings r ≡ standing h r
  pub older : Counts (holds s.older) (older h)
  pub low : AreUpTo (last_cut h) s.older
  pub chains : ListsChains h s.chains
  pub unused : ListsUnused h s.chains
  pub long : AllByRecursion (λ x. AreLong x.1) s.chains
  pub deltas : AreKeptOf h s.kept
  pub topics : (n : ℕ) → topic_at s.subscribers n ≡ topic_of h n
  pub subscribers : list_all (is_subscriber s.number) s.subscribers ≡ true
  pub once : has_repeat nat_eq (map (λ x. x.0) s.subscribers) ≡ false
  pub current : (n : ℕ) → is_current s.current n ≡ true → queue h n ≡ Queued []
  pub seated : s.seated ≤ s.number
  pub time : s.time ≡ time h
  pub last_cut : s.last_cut ≡ last_cut h
  pub own : s.own ≡ own h
  pub count : s.count ≡ count h

-- a Start that stands for a legal history in which one number more is left
pub record IsCheckpoint (h : History) (s : Start) : Type 0 where
  pub legal : IsLegal h
  pub room : last_number h < 2 ^ 62
  pub stands : StandsFor h s

-- the Start counts as current each subscriber for which nothing waits
abbrev pub CountsCurrent : History → Start → Type 0
CountsCurrent h s = (n : ℕ) (t : List ℕ) → topic_of h n ≡ Some t → queue h n ≡ Queued [] → is_current s.current n ≡ true
