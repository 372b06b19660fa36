-- Shouts that would be taken for what is kept otherwise.
use Rattle.std.proofs.Common.{◌≡◌, ◌&&◌, not, ℕ, Bool, true, false, cond, if◌then◌else◌, List, [], refl, sym, ap, ◌∙◌}
use Rattle.serde_json.specs.Data.{Data}
use Rattle.phx_message.specs.declared.message.Message.{Message}
use Rattle.channel_rules.specs.InForce.{InForce}
use Rattle.channel_rules.specs.Said.{text_of}
use Rattle.client_settings.specs.Kept.{is_itself, kept_by, kept_shout, told_of}
use Rattle.client_settings.specs.Meaning.{Meant, is_own_event, is_taken_for_kept, meant_in_time, reads, shouting}
use Rattle.client_settings.specs.declared.settings.Settings.{Settings}

otherwise : (b : Bool) (payload : Data) → not b ≡ true → cond b payload (kept_shout payload) ≡ kept_shout payload
otherwise true payload h = absurd (cc)
otherwise false payload h = refl

pub taken_kept : (payload : Data) → not (is_itself (told_of payload)) ≡ true → kept_by payload ≡ kept_shout payload
taken_kept payload h = otherwise (is_itself (told_of payload)) payload h

right_of : (a b : Bool) → a && b ≡ true → b ≡ true
right_of true b h = h
right_of false b h = absurd (cc)

second : (a b : Bool) (x y z : Meant) → a ≡ false → b ≡ true → (if a then x else (if b then y else z)) ≡ y
second true b x y z h g = absurd (cc)
second false true x y z h g = refl
second false false x y z h g = absurd (cc)

-- so such a shout is read
pub taken_means : (given : Settings) (s : InForce) (text : List ℕ) (m : Message) (read : List ℕ) (ok : List (List ℕ))
    → is_own_event given s m ≡ false → is_taken_for_kept given m ≡ true → read ≡ text_of (shouting m (kept_shout m.payload))
    → ok ≡ [] → reads read ok ≡ meant_in_time given s text m
taken_means given s text m read ok own taken is none =
    let known = right_of _ _ (right_of _ _ taken) in
    (λ i. reads (is i) (none i))
    ∙ (ap (λ p. reads (text_of (shouting m p)) []) (sym (taken_kept m.payload known))
    ∙ sym (second (is_own_event given s m) (is_taken_for_kept given m) _ _ _ own taken))
