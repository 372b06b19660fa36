-- The laws of checkpoints, which the functions of `laws` state: what a history says, its checkpoint says too.
use Rattle.std.specs.Prelude.{◌≡◌, ◌<◌, ◌↔◌, ℕ, ◌+◌, ◌^◌, true, false, List, [], Some}
use Rattle.presence_base.specs.declared.dots.Replica.{Replica}
use Rattle.presence_base.specs.declared.dots.Dot.{Dot}
use Rattle.presence_base.specs.declared.row.Row.{Row}
use Rattle.orswot_core.specs.declared.form.Form.{Form}
use Rattle.orswot_core.specs.Telling.{ToldValue, covers, live_row}
use Rattle.orswot_core.specs.Sets.{DotRows}
use Rattle.delta_range.specs.Deltas.{DeltaValue}
use Rattle.delta_range.specs.Keeping.{Kept}
use Rattle.presence_journal.specs.declared.entry.Start.{Start}
use Rattle.presence_journal.specs.declared.entry.Entry.{Entry}
use Rattle.presence_journal.specs.History.{History, Begin, Then, own, count, last_number, time, last_cut, is_full, next_dot, status, is_gone, hears, known, covered, IsTop, removed, live, shown}
use Rattle.presence_journal.specs.Present.{present, listed}
use Rattle.presence_journal.specs.Queue.{Behind, Queued, topic_of, is_current, queue, taken, fold, IsQuiet, QueuesStay, CurrentStay, AllAreBehind}
use Rattle.presence_journal.specs.Table.{IsStart, IsLegal, IsKept}
use Rattle.presence_journal_known.specs.Full.{IsFullOf}
use Rattle.presence_journal_known.specs.LeftOut.{HoldsCovered}
use Rattle.presence_journal_cuts.specs.Chains.{Counts}
use Rattle.presence_journal_cuts.specs.Cuts.{chain, older, recent, IsCut}
use Rattle.presence_journal_cuts.specs.KeptDeltas.{renews_kept, AreKeptOf, IsToldFrom}
use Rattle.presence_journal_cuts.specs.Checkpoints.{kept_row, IsCheckpoint, CountsCurrent}

-- a checkpoint is a sound Start: a legal history can begin with it, and a journal can
abbrev pub IsSound : Type 0
IsSound = (h : History) (s : Start) → IsCheckpoint h s → IsStart s

abbrev pub BeginsLegal : Type 0
BeginsLegal = (h : History) (s : Start) → IsCheckpoint h s → IsLegal (Begin s)

abbrev pub BeginsKept : Type 0
BeginsKept = (h : History) (s : Start) → IsCheckpoint h s → IsKept (Begin s)

-- behind a checkpoint there is room for entries, while numbers are left
abbrev pub BeginsWithRoom : Type 0
BeginsWithRoom = (h : History) (s : Start) → IsCheckpoint h s → last_number h + 1 < 2 ^ 62 → is_full (Begin s) ≡ false

-- the numbers go on, and what is counted and measured stays
pub record SameCounts (g h : History) : Type 0 where
  pub number : last_number g ≡ last_number h + 1
  pub time : time g ≡ time h
  pub last_cut : last_cut g ≡ last_cut h
  pub next : next_dot g ≡ next_dot h
  pub own : own g ≡ own h
  pub count : count g ≡ count h

abbrev pub KeepsCounts : Type 0
KeepsCounts = (h : History) (s : Start) → IsCheckpoint h s → SameCounts (Begin s) h

-- who is up, down or gone, and who is heard
abbrev pub KeepsStatus : Type 0
KeepsStatus = (h : History) (s : Start) → IsCheckpoint h s → (r : Replica) → status (Begin s) r ≡ status h r

abbrev pub KeepsHearing : Type 0
KeepsHearing = (h : History) (s : Start) → IsCheckpoint h s → (r : Replica) → hears (Begin s) r ≡ hears h r

-- what is covered, and how far; what is known, where the replica is not gone
abbrev pub KeepsCoveredDots : Type 0
KeepsCoveredDots = (h : History) (s : Start) → IsCheckpoint h s → (d : Dot) → covered (Begin s) d ≡ covered h d

abbrev pub KeepsTop : Type 0
KeepsTop = (h : History) (s : Start) → IsCheckpoint h s → (r : Replica) (n : ℕ) → IsTop h r n ↔ IsTop (Begin s) r n

abbrev pub KeepsKnown : Type 0
KeepsKnown = (h : History) (s : Start) → IsCheckpoint h s → (d : Dot) → is_gone (status h d.replica) ≡ false
    → known (Begin s) d ≡ known h d

-- what is shown of each dot, and live and removed, where the replica is not gone
abbrev pub KeepsShown : Type 0
KeepsShown = (h : History) (s : Start) → IsCheckpoint h s → (d : Dot) → shown (Begin s) d ≡ shown h d

abbrev pub KeepsLive : Type 0
KeepsLive = (h : History) (s : Start) → IsCheckpoint h s → (d : Dot) → is_gone (status h d.replica) ≡ false
    → live (Begin s) d ≡ live h d

abbrev pub KeepsRemoved : Type 0
KeepsRemoved = (h : History) (s : Start) → IsCheckpoint h s → (d : Dot) → is_gone (status h d.replica) ≡ false
    → removed (Begin s) d ≡ removed h d

-- what is live of any dot: nothing, where its replica is gone
abbrev pub LiveIsKept : Type 0
LiveIsKept = (h : History) (s : Start) → IsCheckpoint h s → (d : Dot) → live (Begin s) d ≡ kept_row h d

-- who is present on each topic
abbrev pub KeepsPresent : Type 0
KeepsPresent = (h : History) (s : Start) → IsCheckpoint h s → (t : List ℕ) → present (Begin s) t ≡ present h t

abbrev pub KeepsListed : Type 0
KeepsListed = (h : History) (s : Start) → IsCheckpoint h s → (t : List ℕ) → listed (Begin s) t ≡ listed h t

-- the set of what is covered and live, and what is told of it in full
abbrev pub KeepsSet : Type 0
KeepsSet = (h : History) (s : Start) → IsCheckpoint h s → (x : DotRows) → HoldsCovered h x ↔ HoldsCovered (Begin s) x

abbrev pub KeepsFull : Type 0
KeepsFull = (h : History) (s : Start) → IsCheckpoint h s → (form : Form) (t : ToldValue)
    → IsFullOf form h t ↔ IsFullOf form (Begin s) t

-- all that is told of a history in full can be the content of its checkpoint
abbrev pub FullStands : Type 0
FullStands = (form : Form) (h : History) (t : ToldValue) → IsFullOf form h t → ((d : Dot) → covers t d ≡ covered h d)
    × ((d : Dot) → live_row t d ≡ kept_row h d)

-- what the next cut tells: the older counts that went since the last one, and the own rows above it
abbrev pub KeepsCut : Type 0
KeepsCut = (h : History) (s : Start) → IsCheckpoint h s → (c : DeltaValue) → IsCut h c ↔ IsCut (Begin s) c

abbrev pub KeepsOlder : Type 0
KeepsOlder = (h : History) (s : Start) → IsCheckpoint h s → Counts (older (Begin s)) (older h)

abbrev pub KeepsRecent : Type 0
KeepsRecent = (h : History) (s : Start) → IsCheckpoint h s → (d : Dot) → recent (Begin s) d ≡ recent h d

-- the chains of the own rows that are shown, and those of counts that are not used yet
abbrev pub KeepsShownChains : Type 0
KeepsShownChains = (h : History) (s : Start) → IsCheckpoint h s → (d : Dot) (r : Row) → d.replica ≡ own h
    → shown h d ≡ Some r → chain (Begin s) d.count ≡ chain h d.count

abbrev pub KeepsUnusedChains : Type 0
KeepsUnusedChains = (h : History) (s : Start) → IsCheckpoint h s → (c : ℕ) → count h < c
    → chain (Begin s) c ≡ chain h c

-- a history has its kept deltas once
abbrev pub OneKept : Type 0
OneKept = (h : History) (j k : Kept) → AreKeptOf h j → AreKeptOf h k → j ≡ k

-- an entry that is neither a cut nor a rebirth leaves them
abbrev pub OthersKeep : Type 0
OthersKeep = (h : History) (e : Entry) → renews_kept e.outcome ≡ false → (k : Kept) → AreKeptOf h k ↔ AreKeptOf (Then h e) k

-- and so does a checkpoint, with what is told from a count on
abbrev pub KeepsKeptDeltas : Type 0
KeepsKeptDeltas = (h : History) (s : Start) → IsCheckpoint h s → (k : Kept) → AreKeptOf h k ↔ AreKeptOf (Begin s) k

abbrev pub KeepsToldFrom : Type 0
KeepsToldFrom = (h : History) (s : Start) → IsCheckpoint h s → (form : Form) (n : ℕ) (t : ToldValue)
    → IsToldFrom form h n t ↔ IsToldFrom form (Begin s) n t

-- who subscribes to what
abbrev pub KeepsTopics : Type 0
KeepsTopics = (h : History) (s : Start) → IsCheckpoint h s → (n : ℕ) → topic_of (Begin s) n ≡ topic_of h n

-- a subscriber that the Start doesn't count as current is behind, and owed the whole state; where it counts none so, each is
abbrev pub SubscribersAreBehind : Type 0
SubscribersAreBehind = (h : History) (s : Start) → IsCheckpoint h s → (n : ℕ) (t : List ℕ) → topic_of h n ≡ Some t
    → is_current s.current n ≡ false → queue (Begin s) n ≡ Behind

abbrev pub NoneIsCurrent : Type 0
NoneIsCurrent = (h : History) (s : Start) → IsCheckpoint h s → s.current ≡ [] → AllAreBehind (Begin s)

-- for one that it counts as current nothing waits, as before
abbrev pub CurrentAreServed : Type 0
CurrentAreServed = (h : History) (s : Start) → IsCheckpoint h s → (n : ℕ) → is_current s.current n ≡ true
    → (queue h n ≡ Queued []) × (queue (Begin s) n ≡ Queued [])

-- and what it took before the Start folds to the rows to which what it is counted to have taken there does
abbrev pub FoldsStay : Type 0
FoldsStay = (h : History) (s : Start) → IsCheckpoint h s → (n : ℕ) (t : List ℕ) → topic_of h n ≡ Some t
    → is_current s.current n ≡ true → fold (taken (Begin s) n) ≡ fold (taken h n)

-- where the Start counts as current each for whom nothing waits, each of these stays so, and the others are behind
abbrev pub OthersFallBehind : Type 0
OthersFallBehind = (h : History) (s : Start) → IsCheckpoint h s → CountsCurrent h s → CurrentStay h (Begin s)

-- so where no item waits, nobody is owed what it wasn't owed before
abbrev pub QuietStays : Type 0
QuietStays = (h : History) (s : Start) → IsCheckpoint h s → IsQuiet h → CountsCurrent h s → QueuesStay h (Begin s)
