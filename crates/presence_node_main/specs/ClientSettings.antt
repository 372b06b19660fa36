-- What a server's clients may do, by its options.
use Rattle.std.specs.Prelude.{◌≡◌, ◌&&◌, ℕ, Bool, true, false, List, [], ◌∷◌, Option, Some, None, if◌then◌else◌}
use Rattle.number_texts.specs.Allowed.{numbers_where}
use Rattle.client_settings.specs.Names.{Names}
use Rattle.client_settings.specs.declared.settings.Settings.{Settings}
use Rattle.presence_options.specs.declared.options.ClientOptions.{ClientOptions}

abbrev pub is_none : List (List ℕ) → Bool
is_none [] = true
is_none (name ∷ names) = false

-- the events of the names that are given, if one is
abbrev pub events_in : ClientOptions → Option Names
events_in o =
    if is_none o.events.items && (is_none o.answered.items && is_none o.to_others.items) then None
    else Some (record { sent = o.events.items; answered = o.answered.items; to_others = o.to_others.items })

pub record IsSettingOf (o : ClientOptions) (s : Settings) : Type 0 where
  pub numbers : s.numbers ≡ numbers_where o.fractions
  pub joins : s.match_joins ≡ o.match_joins
  pub events : s.events ≡ events_in o
