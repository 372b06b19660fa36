-- When no item waits for anybody.
use Rattle.std.specs.Prelude.{◌≡◌, ℕ, Bool, true, false, List, Option, Some}
use Rattle.std.specs.List.{list_all}
use Rattle.presence_journal.specs.History.{History}
use Rattle.presence_journal.specs.Queue.{topic_of, queue}
pub use Rattle.presence_journal.specs.Queue.{is_idle, IsQuiet}
use Rattle.tracker_feeds.specs.Fed.{Subscriber, Fed, found}
use Rattle.tracker_feeds.specs.Rings.{Seen, waiting}
use Rattle.tracker_feeds.specs.declared.followers.Follower.{Follower}

-- an item waits for some present subscriber
abbrev pub IsBusy : History → Type 0
IsBusy h = (n : ℕ) × (t : List ℕ) × (topic_of h n ≡ Some t) × (is_idle (queue h n) ≡ false)

abbrev pub TellsQuiet : History → Bool → Type 0
TellsQuiet h true = IsQuiet h
TellsQuiet h false = IsBusy h

-- the same, of feeds

abbrev pub AreIdle : Fed → Type 0
AreIdle f = (n : ℕ) (s : Subscriber) → found f n ≡ Some s → is_idle s.waiting ≡ true

abbrev pub SomeBusy : Fed → Type 0
SomeBusy f = (n : ℕ) × (s : Subscriber) × (found f n ≡ Some s) × (is_idle s.waiting ≡ false)

abbrev pub TellsIdle : Fed → Bool → Type 0
TellsIdle f true = AreIdle f
TellsIdle f false = SomeBusy f

-- and of rings and cursors

abbrev pub idle_at : (List ℕ → Option Seen) → Follower → Bool
idle_at rings f = is_idle (waiting (rings f.topic) f.next)

abbrev pub all_idle : (List ℕ → Option Seen) → List (ℕ × Follower) → Bool
all_idle rings followers = list_all (λ (e : ℕ × Follower). idle_at rings e.1) followers
