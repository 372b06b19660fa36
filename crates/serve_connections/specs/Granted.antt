-- What a grant lets a client ask, and what a port does that asks nothing else.
use Rattle.std.specs.Prelude.{◌≡◌, ℕ, Bool, true, false, Result, Ok, Err}
use Rattle.channel_rules.specs.Asks.{Ask, Answer, track, update, untrack, untrack_all, list, get, subscribe, take, unsubscribe, waits, shout}
use Rattle.channel_rules.specs.declared.refusal.Refusal.TheVariants.{NotGranted}
use Rattle.tokens.specs.Claimed.{Granted}
use Rattle.tokens.specs.Granting.{is_of_topics, lets_join, lets_shout, lets_track}
use Rattle.tokens.specs.Held.{granted}
use Rattle.tokens.specs.declared.grant.Grant.{Grant}
use Rattle.serve_connections.specs.declared.cause.Cause.{Cause}

-- it only takes away what its caller has
abbrev pub takes_away : Ask → Bool
takes_away (untrack t k) = true
takes_away (untrack_all t) = true
takes_away (unsubscribe t s) = true
takes_away q = false

-- To be tracked needs the topic and the key, to look at a topic and to join it the topic, to shout the topic and leave to
-- shout, each at this second. What waits for a subscriber at a topic that is granted may be taken until the connection ends.
abbrev pub gives : Granted → ℕ → Ask → Bool
gives g now (track t k m) = lets_track g now t k
gives g now (update t k m) = lets_track g now t k
gives g now (untrack t k) = true
gives g now (untrack_all t) = true
gives g now (list t) = lets_join g now t
gives g now (get t k) = lets_join g now t
gives g now (subscribe t) = lets_join g now t
gives g now (take t s n) = is_of_topics g.topics t
gives g now (unsubscribe t s) = true
gives g now (waits t s) = is_of_topics g.topics t
gives g now (shout t p) = lets_shout g now t

-- what the token that a client showed lets it ask; without one it may only take away
abbrev pub may_ask : Result Grant Cause → ℕ → Ask → Bool
may_ask (Ok g) now q = gives (granted g) now q
may_ask (Err cause) now q = takes_away q

-- It is asked where it may be; else it is refused, and the port inside isn't asked.
abbrev pub AsksIf : {P : Type 0} → (P → (q : Ask) → Answer q → P → Type 0) → Bool → P → (q : Ask) → Answer q → P → Type 0
AsksIf step true old q a new = step old q a new
AsksIf step false old q a new = (new ≡ old) × (a ≡ Err NotGranted)

-- the steps of a port as a client makes them to whom this is granted, at this second
abbrev pub AsksGranted : {P : Type 0} → Result Grant Cause → ℕ → (P → (q : Ask) → Answer q → P → Type 0) → P → (q : Ask)
    → Answer q → P → Type 0
AsksGranted held now step old q a new = AsksIf step (may_ask held now q) old q a new
