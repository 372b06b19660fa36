-- The shouts that a session reads of events of one's own, and of shouts.
use Rattle.std.proofs.Common.{◌≡◌, ◌<◌, ◌≤◌, ◌^◌, ℕ, Bool, true, false, cond, List, length, Option, Some, None, Ok, refl, arith}
use Rattle.serde_json.specs.Data.{Data, depth}
use Rattle.serde_json.specs.Written.{has_float}
use Rattle.phx_message.specs.Message.{IsWithin, value_of}
use Rattle.phx_message.specs.Orderly.{IsOrderly}
use Rattle.phx_message.specs.Reading.{decoded}
use Rattle.phx_message.specs.declared.message.Message.{Message}
use Rattle.phx_message.specs.declared.message.TheConstants.Limits as the_limits
use Rattle.phx_message.proofs.Decoded.{decoded_found, decoded_only, decoded_orderly, reads_back}
use Rattle.channel_rules.specs.Said.{text_of}
use Rattle.client_settings.specs.Kept.{is_itself, kept_by, kept_event, kept_shout, sender_value, told_of}
use Rattle.client_settings.specs.Laws.{IsShouted}
use Rattle.client_settings.specs.Meaning.{as_shout, sender_of, shouting}
use Rattle.client_settings.specs.Events.{goes_to_others}
use Rattle.client_settings.specs.declared.settings.Settings.{Settings}

-- ---- a message within what a client may send is what its text is read as

deeper : (n : ℕ) → n ≤ 64 → n ≤ 96
deeper n h = omega arith

longer : (n : ℕ) → n ≤ 65536 → n ≤ 16777216
longer n h = omega arith

read_again : (m : Message) → IsWithin the_limits.CLIENT.depth m → IsOrderly (value_of m) → length (text_of m) ≤ the_limits.CLIENT.bytes
    → decoded the_limits.CLIENT (text_of m) ≡ Ok m
read_again m within orderly short =
    let frame : IsWithin the_limits.FRAME.depth m =
    record { topic = within.topic; event = within.event; shallow = deeper (depth m.payload) within.shallow; whole = within.whole } in
    let back = decoded_found the_limits.FRAME (text_of m) m (reads_back m frame orderly (longer (length (text_of m)) short)) in
    decoded_only the_limits.CLIENT (text_of m) m within short back.reads

-- ---- a shout in a message's place

shout_orderly : (m : Message) (kept : Data) → IsOrderly (value_of m) → IsOrderly kept → IsOrderly (value_of (shouting m kept))
shout_orderly m kept h k = (h.0, (h.1.0, (tt, (tt, (k, tt)))))

payload_orderly : (m : Message) → IsOrderly (value_of m) → IsOrderly m.payload
payload_orderly m h = h.1.1.1.1.0

shout_read : (text : List ℕ) (m : Message) (kept : Data) → decoded the_limits.CLIENT text ≡ Ok m → (IsOrderly m.payload → IsOrderly kept)
    → (has_float m.payload ≡ false → has_float kept ≡ false) → depth kept ≤ 64 → length (text_of (shouting m kept)) ≤ the_limits.CLIENT.bytes
    → decoded the_limits.CLIENT (text_of (shouting m kept)) ≡ Ok (shouting m kept)
shout_read text m kept is orderly whole shallow short =
    let sent = decoded_orderly the_limits.CLIENT text m is in
    read_again (shouting m kept) (record { topic = sent.0.topic; event = refl; shallow = shallow; whole = whole sent.0.whole })
    (shout_orderly m kept sent.1 (orderly (payload_orderly m sent.1))) short

-- ---- events of one's own

-- the session is told by a number of 64 bits
sender_orderly : (others : Bool) (pid : ℕ) → pid < 2 ^ 64 → IsOrderly (sender_value (cond others (Some pid) None))
sender_orderly true pid h = h
sender_orderly false pid h = tt

event_orderly : (event : List ℕ) (sender : Option ℕ) (payload : Data) → IsOrderly (sender_value sender) → IsOrderly payload → IsOrderly (kept_event event sender payload)
event_orderly event sender payload s p = (tt, (s, (p, (tt, tt))))

event_whole : (event : List ℕ) (sender : Option ℕ) (payload : Data) → has_float payload ≡ false → has_float (kept_event event sender payload) ≡ false
event_whole event None payload h = rw h refl
event_whole event (Some pid) payload h = rw h refl

event_shallow : (event : List ℕ) (sender : Option ℕ) (payload : Data) → depth payload < 64 → depth (kept_event event sender payload) ≤ 64
event_shallow event None payload h = omega arith
event_shallow event (Some pid) payload h = omega arith

pub events_are_shouts : (given : Settings) (pid : ℕ) (text : List ℕ) (m : Message) → decoded the_limits.CLIENT text ≡ Ok m → pid < 2 ^ 64
    → IsShouted m (as_shout given pid m) → decoded the_limits.CLIENT (text_of (as_shout given pid m)) ≡ Ok (as_shout given pid m)
events_are_shouts given pid text m is number shouted =
    let sender = sender_of given pid m.event in
    shout_read text m (kept_event m.event sender m.payload) is
    (event_orderly m.event sender m.payload (sender_orderly (goes_to_others given.events m.event) pid number))
    (event_whole m.event sender m.payload) (event_shallow m.event sender m.payload shouted.shallow) shouted.short

-- ---- shouts

by_orderly : (itself : Bool) (payload : Data) → IsOrderly payload → IsOrderly (cond itself payload (kept_shout payload))
by_orderly true payload h = h
by_orderly false payload h = (h, (tt, tt))

by_whole : (itself : Bool) (payload : Data) → has_float payload ≡ false → has_float (cond itself payload (kept_shout payload)) ≡ false
by_whole true payload h = h
by_whole false payload h = rw h refl

by_shallow : (itself : Bool) (payload : Data) → depth payload < 64 → depth (cond itself payload (kept_shout payload)) ≤ 64
by_shallow true payload h = omega arith
by_shallow false payload h = omega arith

pub shouts_are_kept : (text : List ℕ) (m : Message) → decoded the_limits.CLIENT text ≡ Ok m → IsShouted m (shouting m (kept_by m.payload))
    → decoded the_limits.CLIENT (text_of (shouting m (kept_by m.payload))) ≡ Ok (shouting m (kept_by m.payload))
shouts_are_kept text m is shouted =
    let itself = is_itself (told_of m.payload) in
    shout_read text m (kept_by m.payload) is (by_orderly itself m.payload) (by_whole itself m.payload) (by_shallow itself m.payload shouted.shallow) shouted.short
