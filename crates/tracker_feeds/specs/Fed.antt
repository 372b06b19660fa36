-- What the feeds of a shard say of each subscriber, and when it is what a history says.
use Rattle.std.specs.Prelude.{◌≡◌, ◌≤◌, ◌+◌, ℕ, Bool, cond, nat_eq, List, Option, Some, None, option_map, option_to_list, take}
use Rattle.std.specs.Map.{lookup}
use Rattle.std.specs.List.{list_any}
use Rattle.std.specs.BTreeMap.{BTreeMap, get}
use Rattle.std.specs.declared.sync.Arc.{Arc}
use Rattle.presence_base.specs.Order.{text_cmp, same_text}
use Rattle.presence_journal.specs.declared.rows.Item.{Item}
use Rattle.presence_journal.specs.History.{History, last_number}
use Rattle.presence_journal.specs.Queue.{Waiting, Behind, Queued, first_waiting, topic_of, queue, push_items, left_by, is_waiting}

-- a subscriber's topic, and what waits for it
pub record Subscriber : Type 0 where
  pub topic : List ℕ
  pub waiting : Waiting

abbrev pub on_topic : List ℕ → Waiting → Subscriber
on_topic t w = record { topic = t; waiting = w }

-- the subscribers by number, and how many deliveries there were
pub record Fed : Type 0 where
  pub subscribers : List (ℕ × Subscriber)
  pub delivered : ℕ

-- the subscriber of a number
abbrev pub found : Fed → ℕ → Option Subscriber
found f n = lookup (nat_eq n) f.subscribers

abbrev pub topic_at : Fed → ℕ → Option (List ℕ)
topic_at f n = option_map (λ (s : Subscriber). s.topic) (found f n)

-- whether it is behind or has something waiting
abbrev pub waits_at : Fed → ℕ → Option Bool
waits_at f n = option_map (λ (s : Subscriber). is_waiting s.waiting) (found f n)

-- some subscriber has the topic
abbrev pub is_followed : Fed → List ℕ → Bool
is_followed f t = list_any (λ (x : ℕ × Subscriber). same_text x.1.topic t) f.subscribers

abbrev pub as_waiting : History → ℕ → List ℕ → Subscriber
as_waiting h n t = on_topic t (queue h n)

-- a present subscriber of a history
abbrev pub subscriber_of : History → ℕ → Option Subscriber
subscriber_of h n = option_map (as_waiting h n) (topic_of h n)

-- The subscribers are those of the history, with what waits for each. There were at most as many deliveries as entries.
pub record IsFedBy (h : History) (f : Fed) : Type 0 where
  pub subscribers : (n : ℕ) → found f n ≡ subscriber_of h n
  pub delivered : f.delivered ≤ last_number h

-- What the calls do.

-- nothing, as far as can be seen
pub record SameFed (old new : Fed) : Type 0 where
  pub subscribers : (n : ℕ) → found new n ≡ found old n
  pub delivered : new.delivered ≡ old.delivered

-- one number gets another subscriber, or none
pub record IsChanged (old new : Fed) (n : ℕ) (s : Option Subscriber) : Type 0 where
  pub subscribers : (k : ℕ) → found new k ≡ cond (nat_eq n k) s (found old k)
  pub delivered : new.delivered ≡ old.delivered

-- one that is owed the state
abbrev pub newcomer : List ℕ → Subscriber
newcomer t = on_topic t Behind

-- one of a Start: where it is current nothing waits for it, and else it is owed the state
abbrev pub first_of : Bool → List ℕ → Subscriber
first_of current t = on_topic t (first_waiting current)

-- once up to so many items are taken
abbrev pub left_with : ℕ → Subscriber → Subscriber
left_with max s = on_topic s.topic (left_by max s.waiting)

-- the items that wait, up to so many; none are named where the state is owed
abbrev pub items_at_most : ℕ → Waiting → Option (List Item)
items_at_most max Behind = None
items_at_most max (Queued q) = Some (take max q)

abbrev pub items_of : ℕ → Option Subscriber → Option (List Item)
items_of max None = None
items_of max (Some s) = items_at_most max s.waiting

-- once its topic's items are delivered
abbrev pub with_more : (List ℕ → List Item) → Subscriber → Subscriber
with_more items s = on_topic s.topic (push_items s.waiting (items s.topic))

pub record IsDelivered (old new : Fed) (items : List ℕ → List Item) : Type 0 where
  pub subscribers : (n : ℕ) → found new n ≡ option_map (with_more items) (found old n)
  pub delivered : new.delivered ≡ old.delivered + 1

-- the items that are to be delivered, by topic
abbrev pub items_for : {A : Type 0} → BTreeMap (List ℕ) (Arc Item A) → List ℕ → List Item
items_for {A} made t = option_to_list (option_map (λ (i : Arc Item A). i.value) (get text_cmp made t))
