-- By default nothing changes.
use Rattle.std.proofs.Common.{◌≡◌, ℕ, List, [], None, false, refl}
use Rattle.number_texts.specs.Allowed.{all_told, heard_text}
use Rattle.channel_rules.specs.InForce.{InForce}
use Rattle.client_settings.specs.Laws.{ChangesNothing, ChangesNumbers}
use Rattle.client_settings.specs.Meaning.{IsPlain, meaning, reads}
use Rattle.client_settings.specs.Telling.{told_by}
use Rattle.client_settings.specs.declared.settings.Settings.{Settings}

plainly_read : (given : Settings) → IsPlain given → (s : InForce) (text : List ℕ) → meaning given s text ≡ reads text []
unfolding meaning
plainly_read given h s text = rw (h.numbers, h.joins, h.events) refl

plainly_told : (given : Settings) → IsPlain given → (pid : ℕ) (texts : List (List ℕ)) → told_by given pid texts ≡ texts
plainly_told given h pid texts = rw (h.numbers, h.events) refl

pub changes_nothing : (given : Settings) → IsPlain given → ChangesNothing given
changes_nothing given h = record { meaning = plainly_read given h; told = plainly_told given h }

-- ---- where numbers alone are allowed

numbers_read : (given : Settings) → given.match_joins ≡ false → given.events ≡ None → (s : InForce) (text : List ℕ)
    → meaning given s text ≡ reads (heard_text given.numbers text) []
unfolding meaning
numbers_read given joins events s text = rw (joins, events) refl

numbers_told : (given : Settings) → given.events ≡ None → (pid : ℕ) (texts : List (List ℕ)) → told_by given pid texts ≡ all_told given.numbers texts
numbers_told given events pid texts = rw events refl

pub numbers_alone : (given : Settings) → given.match_joins ≡ false → given.events ≡ None → ChangesNumbers given
numbers_alone given joins events = record { meaning = numbers_read given joins events; told = numbers_told given events }
