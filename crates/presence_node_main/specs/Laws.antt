-- A law of what clients may do.
use Rattle.std.specs.Prelude.{◌≡◌, List, [], false, codes}
use Rattle.clap.specs.Words.{Row}
use Rattle.client_settings.specs.Meaning.{IsPlain}
use Rattle.client_settings.specs.declared.settings.Settings.{Settings}
use Rattle.presence_options.specs.Given.{AreClientsGiven, fractions_given, match_joins_given, names_given, phoenix_given}
use Rattle.presence_options.specs.declared.options.ClientOptions.{ClientOptions}
use Rattle.presence_node_main.specs.ClientSettings.{IsSettingOf}

-- none of the options is given that say what clients may do beyond the usual
pub record AsksNothing (rows : List Row) : Type 0 where
  pub phoenix : phoenix_given rows ≡ false
  pub fractions : fractions_given rows ≡ false
  pub joins : match_joins_given rows ≡ false
  pub events : names_given (codes "event") rows ≡ []
  pub answered : names_given (codes "answered") rows ≡ []
  pub to_others : names_given (codes "to-others") rows ≡ []

-- then they may nothing of it
abbrev pub PlainByDefault : Type 0
PlainByDefault = (rows : List Row) (o : ClientOptions) (s : Settings) → AsksNothing rows → AreClientsGiven rows o → IsSettingOf o s
    → IsPlain s
