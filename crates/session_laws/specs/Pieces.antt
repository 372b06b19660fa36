-- The laws of pieces.
use Rattle.std.specs.Prelude.{◌≡◌, ◌++◌, ◌||◌, ℕ, nat_eq, Bool, false, cond, List, [], ◌∷◌, map, Option, Some, None, Ok, Err, is_ok}
use Rattle.phx_message.specs.declared.message.MsgRef.{MsgRef}
use Rattle.presence_journal.specs.declared.rows.Item.{Item}
use Rattle.presence_journal.specs.History.{History}
use Rattle.presence_journal.specs.Present.{listed}
use Rattle.presence_journal.specs.Queue.{queue, topic_of, is_waiting}
use Rattle.presence_journal.specs.Table.{IsLegal}
use Rattle.presence_metas.specs.Fold.{meta_at}
use Rattle.presence_metas.specs.Listing.{Listing}
use Rattle.channel_pieces.specs.Laws.{untold_items}
use Rattle.channel_pieces.specs.declared.telling.UntoldState.{UntoldState}
use Rattle.channel_rules.specs.Asks.{Ask, Answer, ByAnyone, Call, Made, track, update, untrack, untrack_all, list, get, subscribe, take, unsubscribe, waits, shout}
use Rattle.channel_rules.specs.Frames.{message_of}
use Rattle.presence_stdio.specs.Local.{LocalStep}
use Rattle.session_laws.specs.Mirrors.{mirror_from, Mirrors, given_to}
use Rattle.channel_pieces.specs.Piecewise.{Piecewise}

-- ---- some subscribers, by topic and number

-- what a call gives these subscribers
abbrev pub given_of : (List ℕ → ℕ → Bool) → (q : Ask) → Answer q → List Item
given_of mine (take t sub max) (Ok items) = cond (mine t sub.number) items []
given_of mine (take t sub max) (Err e) = []
given_of mine (track t k m) a = []
given_of mine (update t k m) a = []
given_of mine (untrack t k) a = []
given_of mine (untrack_all t) a = []
given_of mine (list t) a = []
given_of mine (get t k) a = []
given_of mine (subscribe t) a = []
given_of mine (unsubscribe t sub) a = []
given_of mine (waits t sub) a = []
given_of mine (shout t p) a = []

abbrev pub given_in : (List ℕ → ℕ → Bool) → List Call → List Item
given_in mine [] = []
given_in mine (c ∷ cs) = given_of mine c.ask c.answer ++ given_in mine cs

-- an accepted call that ends one of them
abbrev pub ends : (List ℕ → ℕ → Bool) → (q : Ask) → Answer q → Bool
ends mine (unsubscribe t sub) a = cond (is_ok a) (mine t sub.number) false
ends mine _ a = false

abbrev pub some_ends : (List ℕ → ℕ → Bool) → List Call → Bool
some_ends mine [] = false
some_ends mine (c ∷ cs) = ends mine c.ask c.answer || some_ends mine cs

-- what they are yet to be told
abbrev pub untold_of : (List ℕ → ℕ → Bool) → Option UntoldState → List Item
untold_of mine None = []
untold_of mine (Some u) = cond (mine u.topic u.number) (untold_items (Some u)) []

-- ---- what a client makes of it

-- a client's lists after the frames of items, if it had none before
abbrev pub lists_after : Option MsgRef → List ℕ → List Item → Listing
lists_after join_ref t items = mirror_from [] (map (message_of join_ref t) items)

-- the same meta, or none, at each key and reference
abbrev pub AreAlike : Listing → Listing → Type 0
AreAlike ls ks = (k r : List ℕ) → meta_at ls k r ≡ meta_at ks k r

-- ---- the laws

module _ {P : Type 0} (step : P → (q : Ask) → Answer q → P → Type 0) where
  -- Calls of the port inside by which a run of calls in pieces was answered: whichever subscribers one looks at, if none of
  -- them ends, what they were given, followed by what they are yet to be told, leads a client's lists to where what the
  -- port inside gave them does.
  pub record AnsweredBy (old new : P) (untold : Option UntoldState) (calls : List Call) : Type 0 where
    pub inner : List Call
    pub made : Made step old inner new
    pub lead : (mine : List ℕ → ℕ → Bool) → some_ends mine calls ≡ false → (join_ref : Option MsgRef) (t : List ℕ)
        → AreAlike (lists_after join_ref t (given_in mine calls ++ untold_of mine untold))
        (lists_after join_ref t (given_in mine inner))

-- so it is of each run of calls in pieces, whoever makes them
abbrev pub PiecesLead : {P : Type 0} → (ℕ → P → (q : Ask) → Answer q → P → Type 0) → Type 0
PiecesLead {P} step = (old new : P) (untold : Option UntoldState) (calls : List Call)
    → Made (ByAnyone (λ pid. Piecewise (step pid))) (old, None) calls (new, untold)
    → AnsweredBy (ByAnyone step) old new untold calls

-- the subscriber of this number, in one shard
abbrev pub numbered : ℕ → List ℕ → ℕ → Bool
numbered n t k = nat_eq k n

-- Over one lent shard: once nothing of a subscriber's is untold and nothing waits for it, what it was given since nothing
-- was leads a client's lists to mirror the present rows of its topic.
abbrev pub PiecesMirror : Type 0
PiecesMirror =
    (old new : History) (untold : Option UntoldState) (calls : List Call) (n : ℕ)
    → Made (ByAnyone (λ pid. Piecewise (LocalStep pid))) (old, None) calls (new, untold) → given_to old n ≡ []
    → some_ends (numbered n) calls ≡ false → IsLegal new → (t : List ℕ) → topic_of new n ≡ Some t
    → untold_of (numbered n) untold ≡ [] → is_waiting (queue new n) ≡ false → (join_ref : Option MsgRef)
    → Mirrors (lists_after join_ref t (given_in (numbered n) calls)) (listed new t)
