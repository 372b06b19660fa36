-- What the rings of items and the cursors of the subscribers hold, and what they say of each subscriber.
use Rattle.std.specs.Prelude.{◌≡◌, ◌≤◌, ◌<◌, ℕ, ◌+◌, ◌-◌, ◌^◌, Bool, true, cond, ◌&&◌, nat_eq, nat_lt, nat_le, min, List, [], ◌∷◌, ◌++◌, length, drop, map as each, sum_by, Option, Some, None, option_map, is_some, Vec}
use Rattle.std.specs.Map.{lookup, values_of}
use Rattle.std.specs.BTreeMap.{BTreeMap, get}
use Rattle.std.specs.VecDeque.{deque_len, deque_capacity}
use Rattle.std.specs.declared.sync.Arc.{Arc}
use Rattle.presence_base.specs.Order.{text_cmp, same_text}
use Rattle.presence_journal.specs.declared.rows.Item.{Item}
use Rattle.presence_journal.specs.Queue.{Waiting, Behind, Queued, most_waiting, left_by}
use Rattle.tracker_feeds.specs.Fed.{Subscriber, Fed, on_topic}
use Rattle.tracker_feeds.specs.declared.rings.Ring.{Ring}
use Rattle.tracker_feeds.specs.declared.followers.Follower.{Follower}

-- the items that are shared
abbrev pub values : {A : Type 0} → List (Arc Item A) → List Item
values {A} is = each (λ (i : Arc Item A). i.value) is

abbrev pub shared : {A B : Type 0} → Option (Vec (Arc Item A) B) → Option (List Item)
shared {A} {B} o = option_map (λ (v : Vec (Arc Item A) B). values v.items) o

-- what is seen of a ring: how many items were made, the newest of them, and how many subscribers there are
pub record Seen : Type 0 where
  pub made : ℕ
  pub items : List Item
  pub followers : ℕ

abbrev pub seen : Ring → Seen
seen r = record { made = r.made; items = values r.items.items; followers = r.followers }

abbrev pub RingMap : Type 0
RingMap = BTreeMap (List ℕ) Ring

abbrev pub seen_at : RingMap → List ℕ → Option Seen
seen_at rings t = option_map seen (get text_cmp rings t)

-- what waits for one who has come so far
abbrev pub waiting : Option Seen → Option ℕ → Waiting
waiting None next = Behind
waiting (Some s) None = Behind
waiting (Some s) (Some n) =
    cond (nat_lt most_waiting (s.made - n)) Behind (Queued (drop (length s.items - (s.made - n)) s.items))

-- How many items wait for one who has come so far, where it isn't behind: these are the last ones of the ring.
abbrev pub IsAhead : Seen → Option ℕ → Option ℕ → Type 0
IsAhead s next None = waiting (Some s) next ≡ Behind
IsAhead s next (Some c) = (waiting (Some s) next ≡ Queued (drop (length s.items - c) s.items)) × (c ≤ length s.items)
    × (c ≤ s.made)

abbrev pub subscriber : (List ℕ → Option Seen) → Follower → Subscriber
subscriber rings f = on_topic f.topic (waiting (rings f.topic) f.next)

-- what is seen of rings and cursors together
abbrev pub fed : (List ℕ → Option Seen) → List (ℕ × Follower) → ℕ → Fed
fed rings followers n =
    record { subscribers = each (λ (e : ℕ × Follower). (e.0, subscriber rings e.1)) followers; delivered = n }

-- one for each subscriber of the topic
abbrev pub one_on : List ℕ → Follower → ℕ
one_on t f = cond (same_text f.topic t) 1 0

abbrev pub followers_on : List ℕ → List (ℕ × Follower) → ℕ
followers_on t followers = sum_by (one_on t) (values_of followers)

abbrev pub followers_in : Option Seen → ℕ
followers_in None = 0
followers_in (Some s) = s.followers

-- the newest items are held, or all
abbrev pub HoldsNewest : Option Seen → Type 0
HoldsNewest None = Unit {0}
HoldsNewest (Some s) = length s.items ≡ min s.made most_waiting

-- and no more were made than deliveries there were
pub record IsHeld (s : Seen) (delivered : ℕ) : Type 0 where
  pub items : length s.items ≡ min s.made most_waiting
  pub made : s.made ≤ delivered
  pub followers : 0 < s.followers

abbrev pub AreHeld : Option Seen → ℕ → Type 0
AreHeld None delivered = Unit {0}
AreHeld (Some s) delivered = IsHeld s delivered

-- there is a ring, and the cursor isn't past the items that were made
abbrev pub IsReached : Option Seen → Option ℕ → Type 0
IsReached None next = ⊥
IsReached (Some s) None = Unit {0}
IsReached (Some s) (Some n) = n ≤ s.made

pub record IsSound (rings : List ℕ → Option Seen) (followers : List (ℕ × Follower)) (delivered : ℕ) : Type 0 where
  pub held : (t : List ℕ) → AreHeld (rings t) delivered
  pub counted : (t : List ℕ) → followers_in (rings t) ≡ followers_on t followers
  pub reached : (n : ℕ) (f : Follower) → lookup (nat_eq n) followers ≡ Some f → IsReached (rings f.topic) f.next

-- What becomes of a ring.

abbrev pub with_followers : Seen → ℕ → Seen
with_followers s n = record { made = s.made; items = s.items; followers = n }

abbrev pub first : Seen
first = record { made = 0; items = []; followers = 1 }

abbrev pub joined : Option Seen → Option Seen
joined None = Some first
joined (Some s) = Some (with_followers s (s.followers + 1))

-- with its last subscriber a ring goes
abbrev pub parted : Option Seen → Option Seen
parted None = None
parted (Some s) = cond (nat_le s.followers 1) None (Some (with_followers s (s.followers - 1)))

-- the newest of the items, with one more
abbrev pub newest : List Item → Item → List Item
newest items i = cond (nat_lt (length items) most_waiting) items (drop 1 items) ++ i ∷ []

-- with one item more, or none
abbrev pub pushed : Option Seen → List Item → Option Seen
pushed None new = None
pushed (Some s) [] = Some s
pushed (Some s) (i ∷ is) = Some (record { made = s.made + 1; items = newest s.items i; followers = s.followers })

-- a ring has a subscriber
abbrev pub HasSome : Option Seen → Type 0
HasSome None = Unit {0}
HasSome (Some s) = 0 < s.followers

-- one topic's ring changes
abbrev pub IsRingChanged : RingMap → RingMap → List ℕ → (Option Seen → Option Seen) → Type 0
IsRingChanged old new t f = (u : List ℕ) → seen_at new u ≡ cond (same_text t u) (f (seen_at old u)) (seen_at old u)

abbrev pub SameRings : RingMap → RingMap → Type 0
SameRings old new = (u : List ℕ) → seen_at new u ≡ seen_at old u

-- one subscriber of the topic fewer: where it is the last, the ring is still to go
abbrev pub IsParted : RingMap → RingMap → List ℕ → Bool → Type 0
IsParted old new t last = (u : List ℕ)
    → cond (last && same_text t u) None (seen_at new u) ≡ cond (same_text t u) (parted (seen_at old u)) (seen_at old u)

abbrev pub IsPushed : RingMap → RingMap → List ℕ → Item → Type 0
IsPushed old new t i = IsRingChanged old new t (λ s. pushed s (i ∷ []))

-- one item more fits; where the most are held, the oldest goes first
abbrev pub HasRoom : Ring → Type 0
HasRoom r = min (deque_len r.items) (most_waiting - 1) < deque_capacity r.items

abbrev pub RoomAt : Option Ring → Type 0
RoomAt None = Unit {0}
RoomAt (Some r) = HasRoom r

-- one item more fits on each topic for which there is one
abbrev pub HasRoomFor : {A : Type 0} → RingMap → BTreeMap (List ℕ) (Arc Item A) → Type 0
HasRoomFor {A} rings made = (t : List ℕ) → is_some (get text_cmp made t) ≡ true → RoomAt (get text_cmp rings t)

-- another item can be counted
abbrev pub IsBelow : Option Seen → Type 0
IsBelow None = Unit {0}
IsBelow (Some s) = s.made < 2 ^ 63

-- What becomes of cursors.

abbrev pub ones_on : List ℕ → Option Follower → ℕ
ones_on t None = 0
ones_on t (Some f) = one_on t f

-- one number gets another cursor, or none
pub record IsPut (old new : List (ℕ × Follower)) (n : ℕ) (f : Option Follower) : Type 0 where
  pub lookups : (k : ℕ) → lookup (nat_eq k) new ≡ cond (nat_eq n k) f (lookup (nat_eq k) old)
  pub counts : (t : List ℕ) → followers_on t new + ones_on t (lookup (nat_eq n) old) ≡ followers_on t old + ones_on t f

-- one goes, where it is there
abbrev pub IsDropped : (List ℕ → Option Seen) → (List ℕ → Option Seen) → Option Follower → Type 0
IsDropped old new None = (u : List ℕ) → new u ≡ old u
IsDropped old new (Some f) = (u : List ℕ) → new u ≡ cond (same_text f.topic u) (parted (old u)) (old u)

abbrev pub newcomer_on : List ℕ → Follower
newcomer_on t = record { topic = t; next = None }

-- what a cursor needs for a take, and what comes of one
pub record CanTake (rings : List ℕ → Option Seen) (f : Follower) : Type 0 where
  pub held : HoldsNewest (rings f.topic)
  pub reached : IsReached (rings f.topic) f.next

pub record IsTaken (rings : List ℕ → Option Seen) (f : Follower) (max next : ℕ) : Type 0 where
  pub waits : waiting (rings f.topic) (Some next) ≡ left_by max (waiting (rings f.topic) f.next)
  pub reached : IsReached (rings f.topic) (Some next)

abbrev pub moved_to : Follower → ℕ → Follower
moved_to f next = record { topic = f.topic; next = Some next }

-- one, where it is there, took up to so many items
abbrev pub IsMoved : (List ℕ → Option Seen) → List (ℕ × Follower) → List (ℕ × Follower) → ℕ → ℕ → Option Follower
    → Type 0
IsMoved rings old new n max None = new ≡ old
IsMoved rings old new n max (Some f) = (next : ℕ) × IsPut old new n (Some (moved_to f next)) × IsTaken rings f max next
