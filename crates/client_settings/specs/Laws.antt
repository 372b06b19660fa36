-- The laws of what clients may do.
use Rattle.std.specs.Prelude.{◌≡◌, ◌<◌, ◌≤◌, ◌^◌, ℕ, List, [], ◌∷◌, length, true, false, Option, Some, None, Ok, if◌then◌else◌, codes}
use Rattle.serde_json.specs.Data.{Data, depth}
use Rattle.phx_message.specs.Making.{broadcast_of}
use Rattle.phx_message.specs.Message.{IsWithin, value_of}
use Rattle.phx_message.specs.Orderly.{IsOrderly}
use Rattle.phx_message.specs.Reading.{decoded}
use Rattle.phx_message.specs.declared.message.Message.{Message}
use Rattle.phx_message.specs.declared.message.TheConstants.Limits as the_limits
use Rattle.number_texts.specs.Allowed.{all_told, heard_text}
use Rattle.channel_rules.specs.InForce.{InForce, Joined, find}
use Rattle.channel_rules.specs.Rules.{is_phoenix, kind_of, rules, says}
use Rattle.channel_rules.specs.Said.{text_of}
use Rattle.channel_rules.specs.Script.{done}
use Rattle.client_settings.specs.Events.{is_own_by, is_reserved, is_unknown_kind}
use Rattle.client_settings.specs.Meaning.{IsPlain, as_shout, is_late, is_taken_for_kept, late_reply, meaning, reads, same_ref, shouting}
use Rattle.client_settings.specs.Kept.{kept_by, kept_event}
use Rattle.client_settings.specs.Telling.{is_pid, told_by, told_text}
use Rattle.client_settings.specs.Names.{Names}
use Rattle.client_settings.specs.declared.settings.Settings.{Settings}

-- by default each text stays as it is
pub record ChangesNothing (given : Settings) : Type 0 where
  pub meaning : (s : InForce) (text : List ℕ) → meaning given s text ≡ reads text []
  pub told : (pid : ℕ) (texts : List (List ℕ)) → told_by given pid texts ≡ texts

abbrev pub PlainChangesNothing : Type 0
PlainChangesNothing = (given : Settings) → IsPlain given → ChangesNothing given

-- where joins aren't matched and there are no events of one's own, numbers are all that changes
pub record ChangesNumbers (given : Settings) : Type 0 where
  pub meaning : (s : InForce) (text : List ℕ) → meaning given s text ≡ reads (heard_text given.numbers text) []
  pub told : (pid : ℕ) (texts : List (List ℕ)) → told_by given pid texts ≡ all_told given.numbers texts

abbrev pub NumbersAlone : Type 0
NumbersAlone = (given : Settings) → given.match_joins ≡ false → given.events ≡ None → ChangesNumbers given

-- the rules answer it just so in every session that hasn't joined its topic
abbrev pub LateIsUnjoined : Type 0
LateIsUnjoined = (given : Settings) (s : InForce) (m : Message) → is_late given s m ≡ true
    → is_phoenix m.topic ≡ false → (routes : List (List ℕ × ℕ)) (other : InForce) → find m.topic other.joined ≡ None
    → rules routes other m ≡ done (says (late_reply (kind_of m.event) m ∷ []) other)

abbrev pub PresentJoinsStay : Type 0
PresentJoinsStay = (given : Settings) (s : InForce) (m : Message) (j : Joined) → find m.topic s.joined ≡ Some j
    → same_ref m.join_ref j.join_ref ≡ true → is_late given s m ≡ false

-- A message on a topic that isn't joined is read as it came, but for a shout that would be taken for what is kept otherwise. So
-- is the message by which a client renews its token, on `phoenix`, which is never joined.
abbrev pub UnjoinedStays : Type 0
UnjoinedStays = (given : Settings) (s : InForce) (text : List ℕ) (m : Message)
    → decoded the_limits.CLIENT (heard_text given.numbers text) ≡ Ok m → find m.topic s.joined ≡ None
    → is_taken_for_kept given m ≡ false → meaning given s text ≡ reads (heard_text given.numbers text) []

-- no event of the channel's, nor one that a server alone sends, is a client's own
pub record IsFree (event : List ℕ) : Type 0 where
  pub unknown : is_unknown_kind (kind_of event) ≡ true
  pub client : is_reserved event ≡ false

abbrev pub OwnEventsAreFree : Type 0
OwnEventsAreFree = (given : Names) (event : List ℕ) → is_own_by given event ≡ true → IsFree event

-- Of a message that a client sent a session reads the shout that stands for it, where that is within what a client may send: its
-- payload is one level deeper.
pub record IsShouted (m : Message) (shout : Message) : Type 0 where
  pub shallow : depth m.payload < the_limits.CLIENT.depth
  pub short : length (text_of shout) ≤ the_limits.CLIENT.bytes

abbrev pub EventsAreShouts : Type 0
EventsAreShouts = (given : Settings) (pid : ℕ) (text : List ℕ) (m : Message) → decoded the_limits.CLIENT text ≡ Ok m
    → pid < 2 ^ 64 → IsShouted m (as_shout given pid m)
    → decoded the_limits.CLIENT (text_of (as_shout given pid m)) ≡ Ok (as_shout given pid m)

abbrev pub ShoutsAreKept : Type 0
ShoutsAreKept = (text : List ℕ) (m : Message) → decoded the_limits.CLIENT text ≡ Ok m
    → IsShouted m (shouting m (kept_by m.payload))
    → decoded the_limits.CLIENT (text_of (shouting m (kept_by m.payload))) ≡ Ok (shouting m (kept_by m.payload))

-- a shout that a session tells, within what a client reads
abbrev pub shout_of : List ℕ → Data → Message
shout_of topic payload = broadcast_of topic (codes "shout") payload

pub record IsTold (m : Message) : Type 0 where
  pub within : IsWithin the_limits.FRAME.depth m
  pub orderly : IsOrderly (value_of m)
  pub short : length (text_of m) ≤ the_limits.FRAME.bytes

abbrev pub EventsComeThrough : Type 0
EventsComeThrough = (given : Names) (pid : ℕ) (topic event : List ℕ) (sender : Option ℕ) (payload : Data)
    → is_own_by given event ≡ true → IsTold (shout_of topic (kept_event event sender payload))
    → told_text given pid (text_of (shout_of topic (kept_event event sender payload)))
    ≡ (if is_pid sender pid then None else Some (text_of (broadcast_of topic event payload)))

abbrev pub ShoutsComeThrough : Type 0
ShoutsComeThrough = (given : Names) (pid : ℕ) (topic : List ℕ) (payload : Data)
    → IsTold (shout_of topic (kept_by payload))
    → told_text given pid (text_of (shout_of topic (kept_by payload))) ≡ Some (text_of (shout_of topic payload))
