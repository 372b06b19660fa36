-- How the texts of shouts end whose payload isn't kept as it was sent.
use Rattle.std.proofs.Common.{◌≡◌, ◌-◌, ℕ, true, List, [], ◌∷◌, ◌++◌, length, codes, Option, refl, sym, ap, subst, ◌∙◌, ◌==◌, ◌+◌, append_assoc, arith}
use Rattle.std.specs.List.{ends_with}
use Rattle.std.proofs.lemmas.List.{length-append}
use Rattle.std.proofs.Math.Seq.{drop-append_seam}
use Rattle.json.specs.Print.{quoted, escape_byte}
use Rattle.serde_json.specs.Data.{Data, null}
use Rattle.serde_json.specs.Written.{compact_text}
use Rattle.channel_rules.specs.Said.{text_of}
use Rattle.client_settings.specs.Kept.{kept_event, kept_shout, mark, sender_value}
use Rattle.client_settings.specs.Laws.{shout_of}
use Rattle.client_settings.specs.Telling.{kept_ending}

-- the text ends so
record Ends (text : List ℕ) : Type 0 where
  front : List ℕ
  is : text ≡ front ++ kept_ending

ends_here : Ends kept_ending
ends_here = record { front = []; is = refl }

ends_behind : (b : ℕ) (text : List ℕ) → Ends text → Ends (b ∷ text)
ends_behind b text h = record { front = b ∷ h.front; is = ap (λ (t : List ℕ). b ∷ t) h.is }

ends_after : (before text : List ℕ) → Ends text → Ends (before ++ text)
ends_after before text h = record {
  front = before ++ h.front;
  is = ap (λ (t : List ℕ). before ++ t) h.is ∙ sym (append_assoc before h.front kept_ending);
}

-- and a list of which it is the last item
abbrev Within : List ℕ → Type 0
Within text = Ends (text ++ 93 ∷ [])

within_behind : (b : ℕ) (text : List ℕ) → Within text → Within (b ∷ text)
within_behind b text h = ends_behind b (text ++ 93 ∷ []) h

within_after : (before text : List ℕ) → Within text → Within (before ++ text)
within_after before text h = subst Ends (sym (append_assoc before text (93 ∷ []))) (ends_after before (text ++ 93 ∷ []) h)

marked_end : Within (44 ∷ (quoted mark ++ 93 ∷ []))
unfolding escape_byte
marked_end = ends_here

event_end : (event : List ℕ) (sender : Option ℕ) (payload : Data) → Within (compact_text (kept_event event sender payload))
event_end event sender payload =
    let marked = 44 ∷ (quoted mark ++ 93 ∷ []) in
    let from_payload = 44 ∷ (compact_text payload ++ marked) in
    let sent_by = compact_text (sender_value sender) in
    let from_sender = 44 ∷ (sent_by ++ from_payload) in
    within_behind 91 (quoted event ++ from_sender) (within_after (quoted event) from_sender
    (within_behind 44 (sent_by ++ from_payload) (within_after sent_by from_payload
    (within_behind 44 (compact_text payload ++ marked) (within_after (compact_text payload) marked marked_end)))))

shout_end : (payload : Data) → Within (compact_text (kept_shout payload))
shout_end payload = within_behind 91 _ (within_after (compact_text payload) _ marked_end)

message_end : (topic : List ℕ) (kept : Data) → Within (compact_text kept) → Ends (text_of (shout_of topic kept))
message_end topic kept h =
    ends_behind 91 _ (ends_after (compact_text null) _ (ends_behind 44 _ (ends_after (compact_text null) _ (ends_behind 44 _ (ends_after (quoted topic) _
    (ends_behind 44 _ (ends_after (quoted (codes "shout")) _ (ends_behind 44 _ h))))))))

less_none : (n k : ℕ) → (n + k) - k ≡ n
less_none n k = omega arith

seen : (front : List ℕ) → ends_with ◌==◌ (front ++ kept_ending) kept_ending ≡ true
seen front =
    rw (length-append front kept_ending, less_none (length front) (length kept_ending), drop-append_seam front kept_ending) refl

ends_so : (text : List ℕ) → Ends text → ends_with ◌==◌ text kept_ending ≡ true
ends_so text h = subst (λ (t : List ℕ). ends_with ◌==◌ t kept_ending ≡ true) (sym h.is) (seen h.front)

pub event_ends : (topic event : List ℕ) (sender : Option ℕ) (payload : Data) → ends_with ◌==◌ (text_of (shout_of topic (kept_event event sender payload))) kept_ending ≡ true
event_ends topic event sender payload = ends_so _ (message_end topic (kept_event event sender payload) (event_end event sender payload))

pub shout_ends : (topic : List ℕ) (payload : Data) → ends_with ◌==◌ (text_of (shout_of topic (kept_shout payload))) kept_ending ≡ true
shout_ends topic payload = ends_so _ (message_end topic (kept_shout payload) (shout_end payload))
