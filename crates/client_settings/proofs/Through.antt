-- What clients get of events of their own, and of shouts.
use Rattle.std.proofs.Common.{◌≡◌, ◌==◌, ℕ, Bool, true, false, List, Option, Some, None, cond, Ok, refl, ◌∙◌}
use Rattle.std.specs.List.{ends_with}
use Rattle.serde_json.specs.Data.{Data}
use Rattle.phx_message.specs.Making.{broadcast_of}
use Rattle.phx_message.specs.Reading.{decoded}
use Rattle.phx_message.specs.declared.message.Message.{Message}
use Rattle.phx_message.specs.declared.message.TheConstants.Limits as the_limits
use Rattle.phx_message.proofs.Decoded.{reads_back}
use Rattle.channel_rules.specs.Said.{text_of}
use Rattle.client_settings.specs.Events.{is_own_by}
use Rattle.client_settings.specs.Kept.{Told, itself, shouted, evented, is_itself, kept_by, kept_event, kept_shout, told_of}
use Rattle.client_settings.specs.Laws.{IsTold, shout_of}
use Rattle.client_settings.specs.Telling.{is_pid, kept_ending, tells, tells_message, told_text}
use Rattle.client_settings.specs.Names.{Names}
use Rattle.client_settings.proofs.Endings.{event_ends, shout_ends}

read_again : (m : Message) → IsTold m → decoded the_limits.FRAME (text_of m) ≡ Ok m
read_again m h = reads_back m h.within h.orderly h.short

-- what is kept for something else tells that
telling : (given : Names) (pid : ℕ) (topic : List ℕ) (payload : Data) (told : Told) → IsTold (shout_of topic payload)
    → ends_with ◌==◌ (text_of (shout_of topic payload)) kept_ending ≡ true → told_of payload ≡ told
    → told_text given pid (text_of (shout_of topic payload)) ≡ tells given pid (text_of (shout_of topic payload)) topic told
unfolding told_text
telling given pid topic payload told h ends is = rw (ends, read_again (shout_of topic payload) h, is) refl

-- what is kept as it was sent tells itself, however its text ends
telling_itself : (given : Names) (pid : ℕ) (topic : List ℕ) (payload : Data) → IsTold (shout_of topic payload) → told_of payload ≡ itself
    → told_text given pid (text_of (shout_of topic payload)) ≡ Some (text_of (shout_of topic payload))
unfolding told_text
telling_itself given pid topic payload h is = go (ends_with ◌==◌ (text_of (shout_of topic payload)) kept_ending)
  where
    go : (b : Bool) → cond b (tells_message given pid (text_of (shout_of topic payload)) (decoded the_limits.FRAME (text_of (shout_of topic payload)))) (Some (text_of (shout_of topic payload)))
        ≡ Some (text_of (shout_of topic payload))
    go true = rw (read_again (shout_of topic payload) h, is) refl
    go false = refl

event_told : (event : List ℕ) (sender : Option ℕ) (payload : Data) → told_of (kept_event event sender payload) ≡ evented event sender payload
event_told event None payload = refl
event_told event (Some pid) payload = refl

pub events_through : (given : Names) (pid : ℕ) (topic event : List ℕ) (sender : Option ℕ) (payload : Data) → is_own_by given event ≡ true
    → IsTold (shout_of topic (kept_event event sender payload))
    → told_text given pid (text_of (shout_of topic (kept_event event sender payload))) ≡ cond (is_pid sender pid) None (Some (text_of (broadcast_of topic event payload)))
events_through given pid topic event sender payload own h =
    telling given pid topic (kept_event event sender payload) (evented event sender payload) h (event_ends topic event sender payload) (event_told event sender payload)
    ∙ own_told
  where
    own_told : tells given pid (text_of (shout_of topic (kept_event event sender payload))) topic (evented event sender payload) ≡ cond (is_pid sender pid) None (Some (text_of (broadcast_of topic event payload)))
    own_told = rw own refl

shout_told : (payload : Data) → told_of (kept_shout payload) ≡ shouted payload
shout_told payload = refl

itself_is : (told : Told) → is_itself told ≡ true → told ≡ itself
itself_is itself e = refl
itself_is (shouted payload) e = absurd (cc)
itself_is (evented event sender payload) e = absurd (cc)

pub shouts_through : (given : Names) (pid : ℕ) (topic : List ℕ) (payload : Data) → IsTold (shout_of topic (kept_by payload))
    → told_text given pid (text_of (shout_of topic (kept_by payload))) ≡ Some (text_of (shout_of topic payload))
shouts_through given pid topic payload = go (is_itself (told_of payload)) refl
  where
    go : (b : Bool) → is_itself (told_of payload) ≡ b → IsTold (shout_of topic (cond b payload (kept_shout payload)))
        → told_text given pid (text_of (shout_of topic (cond b payload (kept_shout payload)))) ≡ Some (text_of (shout_of topic payload))
    go true e h = telling_itself given pid topic payload h (itself_is (told_of payload) e)
    go false e h = telling given pid topic (kept_shout payload) (shouted payload) h (shout_ends topic payload) (shout_told payload)
