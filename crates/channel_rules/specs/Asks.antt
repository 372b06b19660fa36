-- What a session asks of its port, and what it is answered. Who asks is no part of a question: it is handed to the port beside it.
use Rattle.std.specs.Prelude.{◌≡◌, ℕ, List, [], ◌∷◌, Bool, true, false, ◌||◌, Result, is_ok}
use Rattle.serde_json.specs.Data.{Data}
use Rattle.presence_base.specs.declared.dots.Dot.{Dot}
use Rattle.presence_base.specs.declared.row.Row.{Row}
use Rattle.presence_journal.specs.declared.rows.Item.{Item}
use Rattle.tracker_shard.specs.declared.shard.Sub.{Sub}
use Rattle.channel_rules.specs.declared.refusal.Refusal.{Refusal}

-- one question for each call of a shard that a session makes
pub data Ask : Type 0 where
  track : (topic key : List ℕ) (meta : Data) → Ask
  update : (topic key : List ℕ) (meta : Data) → Ask
  untrack : (topic key : List ℕ) → Ask
  untrack_all : (topic : List ℕ) → Ask
  list : (topic : List ℕ) → Ask
  get : (topic key : List ℕ) → Ask
  subscribe : (topic : List ℕ) → Ask
  take : (topic : List ℕ) (sub : Sub) (max : ℕ) → Ask
  unsubscribe : (topic : List ℕ) (sub : Sub) → Ask
  waits : (topic : List ℕ) (sub : Sub) → Ask
  shout : (topic : List ℕ) (payload : Data) → Ask

-- what is given where a question is accepted
abbrev pub Given : Ask → Type 0
Given (track t k m) = Dot
Given (update t k m) = Dot
Given (untrack t k) = Unit {0}
Given (untrack_all t) = Unit {0}
Given (list t) = List (Dot × Row)
Given (get t k) = List (Dot × Row)
Given (subscribe t) = Sub
Given (take t s n) = List Item
Given (unsubscribe t s) = Unit {0}
Given (waits t s) = Bool
Given (shout t p) = Unit {0}

abbrev pub Answer : Ask → Type 0
Answer q = Result (Given q) Refusal

-- a call: what was asked, and what came back
pub record Call : Type 0 where
  pub ask : Ask
  pub answer : Answer ask

-- A call that leaves something behind: an accepted one, or a refused one of the two that end a join. To ask what waits is none.
abbrev pub spoils : (q : Ask) → Answer q → Bool
spoils (track t k m) a = is_ok a
spoils (update t k m) a = is_ok a
spoils (untrack t k) a = is_ok a
spoils (untrack_all t) a = true
spoils (list t) a = is_ok a
spoils (get t k) a = is_ok a
spoils (subscribe t) a = is_ok a
spoils (take t s n) a = is_ok a
spoils (unsubscribe t s) a = true
spoils (waits t s) a = false
spoils (shout t p) a = is_ok a

-- a call that makes a subscriber
abbrev pub enters : (q : Ask) → Answer q → Bool
enters (subscribe t) a = is_ok a
enters _ a = false

abbrev pub some_enters : List Call → Bool
some_enters [] = false
some_enters (c ∷ cs) = enters c.ask c.answer || some_enters cs

abbrev pub some_spoils : List Call → Bool
some_spoils [] = false
some_spoils (c ∷ cs) = spoils c.ask c.answer || some_spoils cs

-- This was asked and this answered, of some caller.
abbrev pub ByAnyone : {P : Type 0} → (ℕ → P → (q : Ask) → Answer q → P → Type 0) → P → (q : Ask) → Answer q → P → Type 0
ByAnyone step old q a new = (pid : ℕ) × step pid old q a new

-- these calls, in this order, took the port from the one to the other
abbrev pub Made : {P : Type 0} → (P → (q : Ask) → Answer q → P → Type 0) → P → List Call → P → Type 0
Made step old [] new = new ≡ old
Made step old (c ∷ cs) new = (mid : _) × step old c.ask c.answer mid × Made step mid cs new
