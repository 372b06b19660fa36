-- What comes of a client's text before its session reads it.
use Rattle.std.specs.Prelude.{◌≡◌, ℕ, ◌==◌, ◌&&◌, ◌||◌, not, Bool, true, false, List, [], ◌∷◌, map, Option, Some, None, is_some, if◌then◌else◌, Result, Ok, Err, string_bytes, codes}
use Rattle.std.specs.Str.{bytes_eq}
use Rattle.serde_json.specs.Data.{Data}
use Rattle.phx_message.specs.Reading.{decoded}
use Rattle.phx_message.specs.declared.message.Message.{Message}
use Rattle.phx_message.specs.declared.message.MessageFault.{MessageFault}
use Rattle.phx_message.specs.declared.message.MsgRef.{MsgRef}
use Rattle.phx_message.specs.declared.message.MsgRef.TheVariants.{Text, Number}
use Rattle.phx_message.specs.declared.message.TheConstants.Limits as the_limits
use Rattle.number_texts.specs.Allowed.{heard_text}
use Rattle.number_texts.specs.Marks.{become}
use Rattle.number_texts.specs.declared.allowed.Numbers.TheVariants.{Whole}
use Rattle.channel_rules.specs.InForce.{Joined, InForce, find}
use Rattle.channel_rules.specs.Rules.{empty, error, kind_of, ok}
use Rattle.channel_rules.specs.Said.{text_of}
use Rattle.channel_rules.specs.declared.kind.EventKind.{EventKind}
use Rattle.channel_rules.specs.declared.kind.EventKind.TheVariants as kinds_are
use Rattle.channel_rules.specs.declared.kind.TopicEvent.{TopicEvent}
use Rattle.channel_rules.specs.declared.kind.TopicEvent.TheVariants as events_are
use Rattle.client_settings.specs.Events.{goes_to_others, is_answered, is_own}
use Rattle.client_settings.specs.Kept.{is_itself, kept_by, kept_event, told_of}
use Rattle.client_settings.specs.declared.settings.Settings.{Settings}
use Rattle.client_settings.specs.declared.meaning.Meaning.{Meaning}
use Rattle.client_settings.specs.declared.meaning.Meaning.TheVariants as meaning_is

-- The session reads this text, and where it says nothing to that, this is said; or this is said, and it reads nothing.
pub data Meant : Type 0 where
  reads : (text : List ℕ) → (ok : List (List ℕ)) → Meant
  answers : (texts : List (List ℕ)) → Meant

-- ---- the join that a message is to

-- two references are the same: the same text, or the same number; none is only none
abbrev pub same_msg_ref : MsgRef → MsgRef → Bool
same_msg_ref (Text a) (Text b) = bytes_eq a b
same_msg_ref (Number a) (Number b) = a == b
same_msg_ref (Text a) (Number b) = false
same_msg_ref (Number a) (Text b) = false

abbrev pub same_ref : Option MsgRef → Option MsgRef → Bool
same_ref None None = true
same_ref (Some a) (Some b) = same_msg_ref a b
same_ref None (Some b) = false
same_ref (Some a) None = false

-- A message to a joined topic, other than a join, under another reference than that of the topic's present join.
abbrev pub is_join : EventKind → Bool
is_join kinds_are.Join = true
is_join _ = false

abbrev pub is_under_another : Option Joined → Message → Bool
is_under_another None m = false
is_under_another (Some j) m = not (is_join (kind_of m.event)) && not (same_ref m.join_ref j.join_ref)

-- where joins are matched such a message is late
abbrev pub is_late : Settings → InForce → Message → Bool
is_late given s m = given.match_joins && is_under_another (find m.topic s.joined) m

-- it is answered as on a topic that isn't joined: a leave ok, and anything else with an error
abbrev pub late_reply : EventKind → Message → Message
late_reply kinds_are.Leave m = ok m.join_ref m empty
late_reply _ m = error m.join_ref m (codes "unmatched topic")

-- ---- events of one's own

-- the session that the event doesn't go to
abbrev pub sender_of : Settings → ℕ → List ℕ → Option ℕ
sender_of given pid event = if goes_to_others given.events event then Some pid else None

abbrev pub shouting : Message → Data → Message
shouting m payload =
    record { join_ref = m.join_ref; msg_ref = m.msg_ref; topic = m.topic; event = codes "shout"; payload = payload }

-- such an event as the shout that it is kept as
abbrev pub as_shout : Settings → ℕ → Message → Message
as_shout given pid m = shouting m (kept_event m.event (sender_of given pid m.event) m.payload)

-- events of one's own are for topics that are joined: on any other the rules answer as ever
abbrev pub is_own_event : Settings → InForce → Message → Bool
is_own_event given s m = is_own given.events m.event && is_some (find m.topic s.joined)

abbrev pub answer_to : Settings → Message → List (List ℕ)
answer_to given m = if is_answered given.events m.event then text_of (ok m.join_ref m empty) ∷ [] else []

abbrev pub is_shout_event : TopicEvent → Bool
is_shout_event events_are.Shout = true
is_shout_event _ = false

abbrev pub is_shout : EventKind → Bool
is_shout (kinds_are.Topic event) = is_shout_event event
is_shout _ = false

-- a shout that would be taken for what is kept otherwise, where there are such events
abbrev pub is_taken_for_kept : Settings → Message → Bool
is_taken_for_kept given m =
    is_some given.events && (is_shout (kind_of m.event) && not (is_itself (told_of m.payload)))

abbrev pub meant_in_time : Settings → InForce → List ℕ → Message → Meant
meant_in_time given s text m =
    if is_own_event given s m then reads (text_of (as_shout given s.pid m)) (answer_to given m)
    else if is_taken_for_kept given m then reads (text_of (shouting m (kept_by m.payload))) []
    else reads text []

abbrev pub meant_by_message : Settings → InForce → List ℕ → Result Message MessageFault → Meant
meant_by_message given s text (Err fault) = reads text []
meant_by_message given s text (Ok m) =
    if is_late given s m then answers (text_of (late_reply (kind_of m.event) m) ∷ []) else meant_in_time given s text m

-- ---- the whole

-- whether a client's messages are looked at before its session reads them
abbrev pub looks : Settings → Bool
looks given = given.match_joins || is_some given.events

-- a failed session is asked nothing
abbrev pub meant_by_text : Settings → InForce → List ℕ → Meant
meant_by_text given s text =
    if looks given && not s.failed then meant_by_message given s text (decoded the_limits.CLIENT text) else reads text []

-- what comes of a text as it came
unfoldable pub meaning : Settings → InForce → List ℕ → Meant
meaning given s text = meant_by_text given s (heard_text given.numbers text)

-- ---- as it is told by code

abbrev pub meant_by : List ℕ → Meaning → Meant
meant_by text (meaning_is.Reads asked) = reads (become text asked.text) (map string_bytes asked.ok.items)
meant_by text (meaning_is.Answers texts) = answers (map string_bytes texts.items)

-- the text is read as it came: no other is made of it, and nothing is said
abbrev pub IsAsItCame : Meaning → Type 0
IsAsItCame (meaning_is.Reads asked) = (asked.text ≡ None) × (asked.ok.items ≡ [])
IsAsItCame (meaning_is.Answers texts) = ⊥

-- whatever text came, this came of it
abbrev pub Means : (List ℕ → Meant) → Meaning → Type 0
Means meant h = (text : List ℕ) → meant_by text h ≡ meant text

-- ---- by default

pub record IsPlain (given : Settings) : Type 0 where
  pub numbers : given.numbers ≡ Whole
  pub joins : given.match_joins ≡ false
  pub events : given.events ≡ None
