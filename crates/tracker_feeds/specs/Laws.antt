-- How the feeds follow a history from entry to entry.
use Rattle.std.specs.Prelude.{◌≡◌, ◌<◌, ◌^◌, ◌+◌, ℕ, Bool, true, false, List, [], ◌∷◌, length, Option, Some, None, option_map}
use Rattle.presence_journal.specs.declared.rows.Item.{Item}
use Rattle.presence_journal.specs.declared.rows.Item.TheVariants as items_are
use Rattle.presence_journal.specs.declared.entry.Outcome.TheVariants as outcomes_are
use Rattle.presence_journal.specs.declared.step.Step.TheVariants as steps_are
use Rattle.presence_journal.specs.declared.step.Step.{Step}
use Rattle.presence_journal.specs.declared.entry.Entry.{Entry}
use Rattle.presence_journal.specs.declared.entry.Start.{Start}
use Rattle.presence_journal.specs.History.{History, Begin, Then, last_number}
use Rattle.presence_journal.specs.Present.{listed}
use Rattle.presence_journal.specs.Queue.{topic_at as first_topic, is_current, topic_of, queue, items_made, items_given, is_waiting}
use Rattle.presence_journal.specs.Table.{IsLegal, outcome_of}
use Rattle.tracker_feeds.specs.Fed.{Fed, found, topic_at, waits_at, items_of, is_followed, IsFedBy, SameFed, IsChanged, IsDelivered, newcomer, first_of, left_with}

-- The subscribers of a Start, each number with its first topic: nothing waits for the current ones, and each other is owed
-- the state.
pub record IsBegun (topics : List (ℕ × List ℕ)) (current : List ℕ) (f : Fed) : Type 0 where
  pub subscribers : (n : ℕ) → found f n ≡ option_map (first_of (is_current current n)) (first_topic topics n)
  pub delivered : f.delivered ≡ 0

-- subscribers that are owed the state, each number with its first topic
pub record AreNewcomers (topics : List (ℕ × List ℕ)) (f : Fed) : Type 0 where
  pub subscribers : (n : ℕ) → found f n ≡ option_map newcomer (first_topic topics n)
  pub delivered : f.delivered ≡ 0

-- the feeds of a journal's Start
abbrev pub BeginningIsFed : Type 0
BeginningIsFed = (s : Start) (f : Fed) → IsBegun s.subscribers s.current f → IsFedBy (Begin s) f

abbrev pub SameIsFed : Type 0
SameIsFed = (h : History) (old new : Fed) → SameFed old new → IsFedBy h old → IsFedBy h new

-- the number of the next entry is nobody's
abbrev pub NextIsFree : Type 0
NextIsFree = (h : History) (f : Fed) → IsLegal h → IsFedBy h f → found f (last_number h + 1) ≡ None

-- one delivery more can be counted
abbrev pub CanDeliver : Type 0
CanDeliver = (h : History) (f : Fed) → IsLegal h → IsFedBy h f → f.delivered < 2 ^ 63

abbrev pub SubscribeIsFed : Type 0
SubscribeIsFed = (h : History) (e : Entry) (t : List ℕ) (old new : Fed) → IsLegal (Then h e)
    → e.step ≡ steps_are.Subscribe t → IsChanged old new e.number (Some (newcomer t)) → IsFedBy h old
    → IsFedBy (Then h e) new

abbrev pub UnsubscribeIsFed : Type 0
UnsubscribeIsFed = (h : History) (e : Entry) (n : ℕ) (old new : Fed) → IsLegal (Then h e)
    → e.step ≡ steps_are.Unsubscribe n → IsChanged old new n None → IsFedBy h old → IsFedBy (Then h e) new

abbrev pub TakeIsFed : Type 0
TakeIsFed = (h : History) (e : Entry) (n max : ℕ) (old new : Fed) → IsLegal (Then h e) → e.step ≡ steps_are.Take n max
    → IsChanged old new n (option_map (left_with max) (found old n)) → IsFedBy h old → IsFedBy (Then h e) new

-- a step of a subscriber alone
abbrev pub is_of_subscriber : Step → Bool
is_of_subscriber (steps_are.Subscribe topic) = true
is_of_subscriber (steps_are.Take n max) = true
is_of_subscriber (steps_are.Unsubscribe n) = true
is_of_subscriber _ = false

-- after any other step, where what it makes for each topic that is followed is delivered
abbrev pub DeliveryIsFed : Type 0
DeliveryIsFed = (h : History) (e : Entry) (items : List ℕ → List Item) (old new : Fed) → IsLegal (Then h e)
    → is_of_subscriber e.step ≡ false → ((t : List ℕ) → is_followed old t ≡ true → items t ≡ items_made h e t)
    → IsDelivered old new items → IsFedBy h old → IsFedBy (Then h e) new

-- and where it makes nothing for them
abbrev pub QuietIsFed : Type 0
QuietIsFed = (h : History) (e : Entry) (f : Fed) → IsLegal (Then h e) → is_of_subscriber e.step ≡ false
    → ((t : List ℕ) → is_followed f t ≡ true → items_made h e t ≡ []) → IsFedBy h f → IsFedBy (Then h e) f

-- What the feeds of a history answer.

abbrev pub TopicsAreThose : Type 0
TopicsAreThose = (h : History) (f : Fed) (n : ℕ) → IsFedBy h f → topic_at f n ≡ topic_of h n

abbrev pub WaitsAreThose : Type 0
WaitsAreThose = (h : History) (f : Fed) (n : ℕ) (t : List ℕ) → IsFedBy h f → topic_of h n ≡ Some t
    → waits_at f n ≡ Some (is_waiting (queue h n))

-- a take comes to these items, or to the state where none are named
abbrev pub IsTakeOf : History → ℕ → ℕ → List ℕ → Option (List Item) → Type 0
IsTakeOf h n max t None = (items_given h n max ≡ items_are.State (listed h t) ∷ [])
    × (outcome_of h (steps_are.Take n max) ≡ Some (outcomes_are.Taken true 1))
IsTakeOf h n max t (Some is) = (items_given h n max ≡ is)
    × (outcome_of h (steps_are.Take n max) ≡ Some (outcomes_are.Taken false (length is)))

abbrev pub ItemsAreThose : Type 0
ItemsAreThose = (h : History) (f : Fed) (n max : ℕ) (t : List ℕ) → IsFedBy h f → topic_of h n ≡ Some t
    → IsTakeOf h n max t (items_of max (found f n))
