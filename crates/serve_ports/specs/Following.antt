-- Which topics are followed, and by whom.
use Rattle.std.specs.Prelude.{◌≡◌, ◌⊎◌, ◌||◌, ℕ, List, [], Bool, true, false, cond, is_ok, leb, length, ◌++◌, ◌∷◌, Option, Some, None, Result, Ok, Err}
use Rattle.std.specs.List.{list_any, AllByRecursion}
use Rattle.std.specs.BTreeSet.{BTreeSet, contains}
use Rattle.std.specs.Arc.{arc_value}
use Rattle.presence_base.specs.Order.{text_cmp, same_text}
use Rattle.std.specs.BTreeMap.{BTreeMap, get}
use Rattle.std.specs.Ordering.{nat_cmp, eq_by_cmp}
use Rattle.channel_rules.specs.Asks.{Ask, Answer, track, update, untrack, untrack_all, subscribe, shout}
use Rattle.serve_ports.specs.declared.followed.Followed.{Followed}
use Rattle.serve_ports.specs.declared.followers.Followers.{Followers}
use Rattle.serve_ports.specs.declared.inbox.Kept.{Kept}

-- whether the topic counts as joined
abbrev pub is_followed : Followed → List ℕ → Bool
is_followed f t = f.has_all || contains text_cmp f.topics t

-- whether one of these does, or each topic
abbrev pub has_one_of : Followed → BTreeSet (List ℕ) → Bool
has_one_of f ts = f.has_all || list_any (contains text_cmp f.topics) ts.keys

-- whether one of the named topics is one of these
abbrev pub names_one_of : List (List ℕ) → BTreeSet (List ℕ) → Bool
names_one_of names ts = list_any (contains text_cmp ts) names

-- it has no topic, and doesn't count each as joined
abbrev pub HasNone : Followed → Type 0
HasNone f = (f.topics.keys ≡ []) × (f.has_all ≡ false)

-- no topic does
abbrev pub FollowsNone : Followed → Type 0
FollowsNone f = (t : List ℕ) → is_followed f t ≡ false

-- each topic does, as where memory ran out
abbrev pub FollowsEach : Followed → Type 0
FollowsEach f = (t : List ℕ) → is_followed f t ≡ true

-- this topic does too and, unless each does, no other
abbrev pub FollowsToo : Followed → List ℕ → Followed → Type 0
FollowsToo f topic g = FollowsEach g ⊎ ((t : List ℕ) → is_followed g t ≡ cond (same_text topic t) true (is_followed f t))

-- whether it is one of these
abbrev pub is_one_of : List (List ℕ) → List ℕ → Bool
is_one_of ts t = list_any (same_text t) ts

-- these topics do too and, unless each does, no other
abbrev pub FollowsAll : Followed → List (List ℕ) → Followed → Type 0
FollowsAll f ts g = FollowsEach g ⊎ ((t : List ℕ) → is_followed g t ≡ (is_one_of ts t || is_followed f t))

-- what either follows and, unless each does, no other
abbrev pub FollowsBoth : Followed → Followed → Followed → Type 0
FollowsBoth f others g = FollowsEach g ⊎ ((t : List ℕ) → is_followed g t ≡ (is_followed f t || is_followed others t))

-- ---- what a port notes

-- the topic counts as joined too, where that is so
abbrev pub AddsIf : Bool → Followed → List ℕ → Followed → Type 0
AddsIf true f topic g = FollowsToo f topic g
AddsIf false f topic g = g ≡ f

-- the topic that it may change, where it is accepted
abbrev pub topic_changed : Ask → Option (List ℕ)
topic_changed (track topic key meta) = Some topic
topic_changed (update topic key meta) = Some topic
topic_changed (untrack topic key) = Some topic
topic_changed (untrack_all topic) = Some topic
topic_changed (shout topic payload) = Some topic
topic_changed _ = None

-- the topic that has a new subscriber, where it is accepted
abbrev pub topic_followed : Ask → Option (List ℕ)
topic_followed (subscribe topic) = Some topic
topic_followed _ = None

abbrev pub Notes : Option (List ℕ) → Bool → Followed → Followed → Type 0
Notes (Some topic) accepted f g = AddsIf accepted f topic g
Notes None accepted f g = g ≡ f

-- An accepted call that may have changed a topic notes that one, and no other call notes any.
abbrev pub NotesChange : (q : Ask) → Answer q → Followed → Followed → Type 0
NotesChange q a f g = Notes (topic_changed q) (is_ok a) f g

-- A new subscriber's topic is noted, and no other.
abbrev pub NotesFollower : (q : Ask) → Answer q → Followed → Followed → Type 0
NotesFollower q a f g = Notes (topic_followed q) (is_ok a) f g

-- ---- what a worker is told

-- Topics of which one is followed wait behind those that waited, and it is told whether they are the first, but for want of
-- memory. Others don't wait.
abbrev pub Tells : {T V E : Type 0} → (T → V) → Bool → V → List T → List T → Result Bool E → Type 0
Tells {T} value true topics old new (Ok first) =
    (told : T) × (value told ≡ topics) × (new ≡ old ++ told ∷ []) × (first ≡ leb (length old) 0)
Tells value true topics old new (Err e) = new ≡ old
Tells value false topics old new (Ok first) = (new ≡ old) × (first ≡ false)
Tells value false topics old new (Err e) = ⊥

-- the same of what a worker keeps: of these topics it follows one, or none
abbrev pub TellsKept : {E : Type 0} → BTreeSet (List ℕ) → Kept → Kept → Result Bool E → Type 0
TellsKept topics old new result =
    Tells arc_value (has_one_of old.followed topics) topics old.waiting.items new.waiting.items result

-- ---- who follows

abbrev pub Tokens : Type 0
Tokens = BTreeMap (List ℕ) (BTreeSet ℕ)

abbrev pub holds : Option (BTreeSet ℕ) → ℕ → Bool
holds None token = false
holds (Some tokens) token = contains nat_cmp tokens token

-- whether this token is kept at this topic
abbrev pub is_kept_at : Tokens → List ℕ → ℕ → Bool
is_kept_at m t token = holds (get text_cmp m t) token

-- whether the connection of this token counts as one that follows the topic
abbrev pub is_follower : Followers → List ℕ → ℕ → Bool
is_follower f t token = f.has_all || is_kept_at f.by_topic t token

-- nobody follows anything
abbrev pub HasNobody : Followers → Type 0
HasNobody f = (t : List ℕ) (token : ℕ) → is_follower f t token ≡ false

abbrev pub same_token : ℕ → ℕ → Bool
same_token = eq_by_cmp nat_cmp

-- this token is kept at this topic too, and no other at any
abbrev pub GainsToken : Tokens → List ℕ → ℕ → Tokens → Type 0
GainsToken m topic token n =
    (t : List ℕ) (k : ℕ)
    → is_kept_at n t k ≡ cond (same_text topic t) (cond (same_token token k) true (is_kept_at m t k)) (is_kept_at m t k)

-- this token is held too
abbrev pub HasToo : BTreeSet ℕ → ℕ → BTreeSet ℕ → Type 0
HasToo old token new = (k : ℕ) → contains nat_cmp new k ≡ cond (same_token token k) true (contains nat_cmp old k)

-- it holds this token and no other
abbrev pub IsOnly : ℕ → BTreeSet ℕ → Type 0
IsOnly token tokens = (k : ℕ) → contains nat_cmp tokens k ≡ cond (same_token token k) true false

-- this one follows this topic too and, unless each follows each, no other any
abbrev pub GainsFollower : Followers → List ℕ → ℕ → Followers → Type 0
GainsFollower f topic token g =
    (g.has_all ≡ true) ⊎ ((g.has_all ≡ f.has_all) × GainsToken f.by_topic topic token g.by_topic)

-- who follows a topic goes on with it
abbrev pub KeepsFollowers : Followers → Followers → Type 0
KeepsFollowers f g = (t : List ℕ) (k : ℕ) → is_follower f t k ≡ true → is_follower g t k ≡ true

-- this one follows all of these
abbrev pub FollowsThese : Followers → List (List ℕ) → ℕ → Type 0
FollowsThese f topics token = AllByRecursion (λ (t : List ℕ). is_follower f t token ≡ true) topics
