-- Messages on topics that aren't joined, and events that are nobody's own.
use Rattle.std.proofs.Common.{◌≡◌, ◌∙◌, ◌&&◌, not, ℕ, Bool, true, false, cond, is_some, List, [], ◌∷◌, Option, None, Ok, refl, ap}
use Rattle.number_texts.specs.Allowed.{heard_text}
use Rattle.phx_message.specs.Reading.{decoded}
use Rattle.phx_message.specs.declared.message.Message.{Message}
use Rattle.phx_message.specs.declared.message.TheConstants.Limits as the_limits
use Rattle.channel_rules.specs.InForce.{InForce, Joined, find}
use Rattle.channel_rules.specs.Rules.{kind_of}
use Rattle.channel_rules.specs.Said.{text_of}
use Rattle.client_settings.specs.Events.{is_own, is_own_by, is_reserved, is_unknown_kind}
use Rattle.client_settings.specs.Kept.{kept_by}
use Rattle.client_settings.specs.Laws.{IsFree}
use Rattle.client_settings.specs.Meaning.{Meant, answer_to, answers, as_shout, is_late, is_taken_for_kept, is_under_another, late_reply, looks, meaning, meant_by_message, meant_by_text, meant_in_time, reads, shouting}
use Rattle.client_settings.specs.Names.{Names}
use Rattle.client_settings.specs.declared.settings.Settings.{Settings}

-- ---- topics that aren't joined

chosen : (own joined taken : Bool) (a b c : Meant) → joined ≡ false → taken ≡ false → cond (own && joined) a (cond taken b c) ≡ c
chosen true joined taken a b c j t = rw (j, t) refl
chosen false joined taken a b c j t = rw t refl

in_time_stays : (given : Settings) (s : InForce) (text : List ℕ) (m : Message) → find m.topic s.joined ≡ None → is_taken_for_kept given m ≡ false
    → meant_in_time given s text m ≡ reads text []
in_time_stays given s text m none other =
    chosen (is_own given.events m.event) (is_some (find m.topic s.joined)) (is_taken_for_kept given m) (reads (text_of (as_shout given s.pid m)) (answer_to given m))
    (reads (text_of (shouting m (kept_by m.payload))) []) (reads text []) (ap is_some none) other

never_late : (matches : Bool) (j : Option Joined) (m : Message) → j ≡ None → (matches && is_under_another j m) ≡ false
never_late true j m none = rw none refl
never_late false j m none = refl

second : (late : Bool) (a b : Meant) → late ≡ false → cond late a b ≡ b
second late a b h = rw h refl

message_stays : (given : Settings) (s : InForce) (text : List ℕ) (m : Message) → find m.topic s.joined ≡ None → is_taken_for_kept given m ≡ false
    → meant_by_message given s text (Ok m) ≡ reads text []
message_stays given s text m none other =
    second (is_late given s m) (answers (text_of (late_reply (kind_of m.event) m) ∷ [])) (meant_in_time given s text m)
    (never_late given.match_joins (find m.topic s.joined) m none)
    ∙ in_time_stays given s text m none other

text_stays : (given : Settings) (s : InForce) (text : List ℕ) (m : Message) → decoded the_limits.CLIENT text ≡ Ok m → find m.topic s.joined ≡ None
    → is_taken_for_kept given m ≡ false → meant_by_text given s text ≡ reads text []
text_stays given s text m is none other = go (looks given && not s.failed)
  where
    go : (b : Bool) → cond b (meant_by_message given s text (decoded the_limits.CLIENT text)) (reads text []) ≡ reads text []
    go true = ap (meant_by_message given s text) is ∙ message_stays given s text m none other
    go false = refl

pub unjoined_stays : (given : Settings) (s : InForce) (text : List ℕ) (m : Message) → decoded the_limits.CLIENT (heard_text given.numbers text) ≡ Ok m
    → find m.topic s.joined ≡ None → is_taken_for_kept given m ≡ false → meaning given s text ≡ reads (heard_text given.numbers text) []
unfolding meaning
unjoined_stays given s text m is none other = text_stays given s (heard_text given.numbers text) m is none other

-- ---- whose event it is

parts : (a b c : Bool) → ((a && not b) && c) ≡ true → (a ≡ true) × (b ≡ false)
parts true true c h = absurd (cc)
parts true false c h = (refl, refl)
parts false b c h = absurd (cc)

pub own_events_free : (given : Names) (event : List ℕ) → is_own_by given event ≡ true → IsFree event
own_events_free given event h =
    let are = parts (is_unknown_kind (kind_of event)) (is_reserved event) _ h in record { unknown = are.0; client = are.1 }
