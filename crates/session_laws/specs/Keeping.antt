-- Lines of one client over a lent shard: each a message and then a delivery. What a session keeps with its shard's history,
-- and the client's lists of each topic with its rows.
use Rattle.std.specs.Prelude.{◌≡◌, ◌⊎◌, codes, ◌≤◌, ◌^◌, ◌++◌, ℕ, List, [], ◌∷◌, Bool, false, Option, Some, None}
use Rattle.std.specs.List.{AllByRecursion, filter}
use Rattle.presence_base.specs.Order.{same_text}
use Rattle.phx_message.specs.declared.message.Message.{Message}
use Rattle.presence_journal.specs.declared.limits.TheConstants.{MAX_TAKEN}
use Rattle.presence_journal.specs.History.{History}
use Rattle.presence_journal.specs.Present.{listed}
use Rattle.presence_journal.specs.Queue.{Queued, queue, topic_of}
use Rattle.presence_journal.specs.Table.{IsLegal}
use Rattle.presence_metas.specs.Listing.{Listing}
use Rattle.tracker_shard.specs.Steps.{slot_of}
use Rattle.channel_rules.specs.Delivering.{delivery}
use Rattle.channel_rules.specs.InForce.{Joined, InForce, find}
use Rattle.presence_stdio.specs.Local.{played}
use Rattle.session_laws.specs.Mirrors.{mirror_from, Mirrors}
use Rattle.channel_rules.specs.Rules.{End, answers, full, memory, rules}
use Rattle.channel_rules.specs.Said.{Said, told, plainly, Tells, EachBy}

-- ---- a session in step with a history

-- the topic's subscriber is there, and nothing waits for it
pub record InStepAt (h : History) (j : Joined) : Type 0 where
  pub topic : topic_of h j.sub.number ≡ Some j.topic
  pub slot : j.sub.slot ≡ slot_of j.sub.number
  pub served : queue h j.sub.number ≡ Queued []

-- no topic is joined twice
abbrev pub AreApart : List Joined → Type 0
AreApart [] = Unit {0}
AreApart (j ∷ js) = (find j.topic js ≡ None) × AreApart js

pub record InStep (s : InForce) (h : History) : Type 0 where
  pub legal : IsLegal h
  pub pid : s.pid ≤ 2 ^ 62
  pub working : s.failed ≡ false
  pub apart : AreApart s.joined
  pub joined : AllByRecursion (InStepAt h) s.joined

-- ---- lines

-- what was said, what is in force, and the shard's history
pub record Past : Type 0 where
  pub said : List Said
  pub session : InForce
  pub history : History

-- this end comes behind what was said before; nothing comes behind a fault
abbrev pub behind : List Said → End → History → Option Past
behind before (answers said s) h = Some (record { said = before ++ said; session = s; history = h })
behind before full h = None
behind before memory h = None

-- what is in force and its history are given on
abbrev pub then_past : Option Past → (Past → Option Past) → Option Past
then_past None next = None
then_past (Some p) next = next p

-- a message is answered
abbrev pub ruled : List (List ℕ × ℕ) → Past → Message → Option Past
ruled routes p m = let x = played p.session.pid (rules routes p.session m) p.history in behind p.said x.0 x.1

-- each topic gets what waits for it
abbrev pub served : Past → Option Past
served p = let x = played p.session.pid (delivery MAX_TAKEN p.session) p.history in behind p.said x.0 x.1

-- a line: the message, and then one delivery
abbrev pub lined : List (List ℕ × ℕ) → Past → Message → Option Past
lined routes p m = then_past (ruled routes p m) served

-- lines, one after another
abbrev pub all_lined : List (List ℕ × ℕ) → Past → List Message → Option Past
all_lined routes p [] = Some p
all_lined routes p (m ∷ ms) = then_past (lined routes p m) (λ q. all_lined routes q ms)

-- ---- what the client makes of the messages

abbrev pub on_topic_of : List ℕ → Message → Bool
on_topic_of t m = same_text m.topic t

-- the client's lists of a topic after messages: those of the topic fold into it, in their order
abbrev pub client_lists : List ℕ → Listing → List Message → Listing
client_lists t ls ms = mirror_from ls (filter (on_topic_of t) ms)

-- a reply, or the close of a join
abbrev pub IsAnswer : Message → Type 0
IsAnswer m = (m.event ≡ codes "phx_reply") ⊎ (m.event ≡ codes "phx_close")

-- an item, told to a join
abbrev pub IsItem : Said → Type 0
IsItem (told j i) = Unit {0}
IsItem _ = ⊥

abbrev pub IsSaid : Said → Type 0
IsSaid x = IsAnswer (plainly x) ⊎ IsItem x

-- the client's lists of each joined topic have the topic's present rows after these messages
abbrev pub Mirror : List Message → Past → Type 0
Mirror ms p = AllByRecursion (λ j. Mirrors (client_lists j.topic [] ms) (listed p.history j.topic)) p.session.joined

-- the message tells it, whatever a fetch added
abbrev pub TellsAnyhow : Said → Message → Type 0
TellsAnyhow = Tells (λ kind topic key extra. Unit {0})

-- Answers and items were said, and the client's lists have the present rows after all messages that tell them, whatever a fetch added.
pub record IsMirrored (p : Past) : Type 0 where
  pub said : AllByRecursion IsSaid p.said
  pub mirrors : (ms : List Message) → EachBy TellsAnyhow p.said ms → Mirror ms p

-- a session of this number that has joined nothing
abbrev pub fresh : ℕ → InForce
fresh pid = record { pid = pid; failed = false; joined = []; cut_short = None }

-- nothing has been said yet
abbrev pub begun : InForce → History → Past
begun s h = record { said = []; session = s; history = h }

-- lines that are all answered leave a session in step, so that nothing waits for a joined topic
abbrev pub StaysInStep : Type 0
StaysInStep =
    (routes : List (List ℕ × ℕ)) (s : InForce) (h : History) → InStep s h → (ms : List Message) (p : Past)
    → all_lined routes (begun s h) ms ≡ Some p → InStep p.session p.history

-- after lines that were all answered, for a session that had joined nothing, the client's lists have the present rows of each joined topic
abbrev pub JoinedAreMirrored : Type 0
JoinedAreMirrored =
    (routes : List (List ℕ × ℕ)) (pid : ℕ) (h : History) → pid ≤ 2 ^ 62 → IsLegal h → (ms : List Message) (p : Past)
    → all_lined routes (begun (fresh pid) h) ms ≡ Some p → IsMirrored p
