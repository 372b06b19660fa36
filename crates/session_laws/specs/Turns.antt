-- A session's turns as they were asked and answered, and what is in force by them.
use Rattle.std.specs.Prelude.{◌≡◌, ◌++◌, ◌&&◌, ◌||◌, ℕ, List, [], ◌∷◌, Bool, false, not, Option, Some, None, Ok, codes, if◌then◌else◌}
use Rattle.std.specs.List.{filter, list_any}
use Rattle.std.specs.Str.{bytes_eq}
use Rattle.serde_json.specs.Data.{Data, string}
use Rattle.serde_json.specs.Find.{get}
use Rattle.presence_base.specs.Order.{same_text}
use Rattle.phx_message.specs.declared.message.Message.{Message}
use Rattle.hook_registry.specs.Routes.{first_kind}
use Rattle.tracker_shard.specs.declared.shard.Sub.{Sub}
use Rattle.channel_rules.specs.Asks.{Ask, Answer, Call, subscribe}
use Rattle.channel_rules.specs.Delivering.{delivery}
use Rattle.channel_rules.specs.InForce.{Joined, InForce}
use Rattle.channel_rules.specs.Rules.{answers, join_ref_of, rules}
use Rattle.channel_rules.specs.Said.{Said, plainly}
use Rattle.channel_rules.specs.Script.{Plays}

-- A message or a delivery, with the calls that were made for it, each with the port's answer, and what was said; or anything that was
-- refused and left nothing behind.
pub data Turn : Type 0 where
  heard : (m : Message) (calls : List Call) (said : List Said) → Turn
  served : (max : ℕ) (calls : List Call) (said : List Said) → Turn
  refused : Turn

-- ---- what a message asks, and how it was answered

abbrev pub is_join : Message → Bool
is_join m = bytes_eq m.event (codes "phx_join")

abbrev pub is_leave : Message → Bool
is_leave m = bytes_eq m.event (codes "phx_leave")

abbrev pub is_ok_status : Option Data → Bool
is_ok_status (Some (string s)) = bytes_eq s (codes "ok")
is_ok_status _ = false

-- a reply with the status ok
abbrev pub is_ok_reply : Message → Bool
is_ok_reply m = bytes_eq m.event (codes "phx_reply") && is_ok_status (get (codes "status") m.payload)

abbrev pub answered_ok : List Said → Bool
answered_ok said = list_any (λ x. is_ok_reply (plainly x)) said

-- the subscriber of an accepted `subscribe`, or else the other
abbrev pub given_or : (q : Ask) → Answer q → Option Sub → Option Sub
given_or (subscribe t) (Ok sub) other = Some sub
given_or _ a other = other

-- the subscriber that the port gave
abbrev pub sub_given : List Call → Option Sub
sub_given [] = None
sub_given (c ∷ calls) = given_or c.ask c.answer (sub_given calls)

-- ---- what is in force

-- the message leaves this topic or joins it, which closes each earlier join of it
abbrev pub closes : Turn → List ℕ → Bool
closes (heard m calls said) t = (is_join m || is_leave m) && same_text m.topic t
closes _ t = false

-- the message's topic, with the kind of its route, the reference of the join and the subscriber
abbrev pub joined_as : Option ℕ → Option Sub → Message → List Joined
joined_as (Some kind) (Some sub) m = record { topic = m.topic; kind = kind; join_ref = join_ref_of m; sub = sub } ∷ []
joined_as _ _ m = []

-- the topic of a join that was answered ok
abbrev pub joined_by : List (List ℕ × ℕ) → Turn → List Joined
joined_by routes (heard m calls said) =
    if is_join m && answered_ok said then joined_as (first_kind m.topic routes) (sub_given calls) m else []
joined_by routes _ = []

-- no later turn leaves the topic or joins it again
abbrev pub stays_joined : List Turn → Joined → Bool
stays_joined later j = not (list_any (λ x. closes x j.topic) later)

-- Of turns, the oldest first: each topic whose last join was answered ok and that has no later leave, in order of joining.
abbrev pub in_force : List (List ℕ × ℕ) → List Turn → List Joined
in_force routes [] = []
in_force routes (x ∷ later) = filter (stays_joined later) (joined_by routes x) ++ in_force routes later

-- ---- runs

-- From the one session to the other the turn was made by the rules, with these answers of the port.
abbrev pub Turned : List (List ℕ × ℕ) → InForce → Turn → InForce → Type 0
Turned routes s (heard m calls said) t = Plays (rules routes s m) calls (answers said t)
Turned routes s (served max calls said) t = Plays (delivery max s) calls (answers said t)
Turned routes s refused t = t ≡ s

-- the turns were made, one after another
abbrev pub AllTurned : List (List ℕ × ℕ) → InForce → List Turn → InForce → Type 0
AllTurned routes s [] t = t ≡ s
AllTurned routes s (x ∷ xs) t = (mid : InForce) × Turned routes s x mid × AllTurned routes mid xs t
