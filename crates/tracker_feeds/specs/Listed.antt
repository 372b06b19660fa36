-- What a Start lists of the subscribers.
use Rattle.std.specs.Prelude.{◌≡◌, ◌≤◌, ℕ, Bool, true, false, cond, nat_eq, List, [], ◌∷◌, Option, Some, map as each}
use Rattle.std.specs.List.{list_all}
use Rattle.presence_base.specs.Names.{is_short_text}
use Rattle.orswot_core.specs.Checks.{has_repeat}
use Rattle.presence_journal.specs.History.{History, last_number}
use Rattle.presence_journal.specs.Queue.{Queued, topic_at as first_topic, is_current, topic_of, queue}
use Rattle.presence_journal.specs.Table.{IsLegal, is_subscriber}
use Rattle.tracker_feeds.specs.Fed.{Fed, topic_at, waits_at, IsFedBy}
use Rattle.tracker_feeds.specs.declared.followers.Follower.{Follower}

-- the numbers of the cursors with their topics
abbrev pub topics_in : List (ℕ × Follower) → List (ℕ × List ℕ)
topics_in fs = each (λ (e : ℕ × Follower). (e.0, e.1.topic)) fs

-- each subscriber is listed once, with its topic
pub record AreListed (f : Fed) (xs : List (ℕ × List ℕ)) : Type 0 where
  pub topics : (n : ℕ) → first_topic xs n ≡ topic_at f n
  pub short : list_all (λ x. is_short_text x.1) xs ≡ true
  pub once : has_repeat nat_eq (each (λ x. x.0) xs) ≡ false

-- nothing waits for the subscriber
abbrev pub is_served : Option Bool → Bool
is_served (Some false) = true
is_served _ = false

-- of these, the numbers of those for which nothing waits
abbrev pub served_in : Fed → List (ℕ × List ℕ) → List ℕ
served_in f [] = []
served_in f (x ∷ xs) = cond (is_served (waits_at f x.0)) (x.0 ∷ served_in f xs) (served_in f xs)

-- these are the subscribers for which nothing waits
pub record AreCurrent (f : Fed) (ns : List ℕ) : Type 0 where
  pub only : (n : ℕ) → is_current ns n ≡ true → is_served (waits_at f n) ≡ true
  pub all : (n : ℕ) → is_served (waits_at f n) ≡ true → is_current ns n ≡ true

-- so they are those of a history's feeds for which nothing waits there
pub record AreCurrentOf (h : History) (ns : List ℕ) : Type 0 where
  pub only : (n : ℕ) → is_current ns n ≡ true → queue h n ≡ Queued []
  pub all : (n : ℕ) (t : List ℕ) → topic_of h n ≡ Some t → queue h n ≡ Queued [] → is_current ns n ≡ true

abbrev pub CurrentAreThose : Type 0
CurrentAreThose = (h : History) (f : Fed) (ns : List ℕ) → IsFedBy h f → AreCurrent f ns → AreCurrentOf h ns

-- the list has the present subscribers of a history, whose numbers are at most this one
pub record AreSubscribers (h : History) (last : ℕ) (xs : List (ℕ × List ℕ)) : Type 0 where
  pub topics : (n : ℕ) → first_topic xs n ≡ topic_of h n
  pub within : list_all (is_subscriber last) xs ≡ true
  pub once : has_repeat nat_eq (each (λ x. x.0) xs) ≡ false

-- those that are listed of a history's feeds are the history's
abbrev pub ListedAreThose : Type 0
ListedAreThose = (h : History) (f : Fed) (last : ℕ) (xs : List (ℕ × List ℕ)) → IsLegal h → IsFedBy h f
    → last_number h ≤ last → AreListed f xs → AreSubscribers h last xs
