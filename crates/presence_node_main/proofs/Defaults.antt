-- What clients may do where no option says so.
use Rattle.std.proofs.Common.{◌≡◌, List, refl}
use Rattle.clap.specs.Words.{Row}
use Rattle.client_settings.specs.Meaning.{IsPlain}
use Rattle.client_settings.specs.declared.settings.Settings.{Settings}
use Rattle.presence_options.specs.Given.{AreClientsGiven}
use Rattle.presence_options.specs.declared.options.ClientOptions.{ClientOptions}
use Rattle.presence_node_main.specs.ClientSettings.{IsSettingOf}
use Rattle.presence_node_main.specs.Laws.{AsksNothing}

pub plainly_set : (rows : List Row) (o : ClientOptions) (s : Settings) → AsksNothing rows → AreClientsGiven rows o → IsSettingOf o s → IsPlain s
plainly_set rows o s none given is = record {
  numbers = rw (is.numbers, given.fractions, none.phoenix, none.fractions) refl;
  joins = rw (is.joins, given.match_joins, none.phoenix, none.joins) refl;
  events = rw (is.events, given.events, given.answered, given.to_others, none.phoenix, none.events, none.answered, none.to_others) refl;
}
