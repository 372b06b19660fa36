-- The names of events of one's own.
use Rattle.std.specs.Prelude.{ℕ, List}
use Rattle.client_settings.specs.declared.events.EventNames.{EventNames}

-- Each list names events, `*` all: those of which nothing more is said, those that are answered, and those that don't go to
-- who sent them.
pub record Names : Type 0 where
  pub sent : List (List ℕ)
  pub answered : List (List ℕ)
  pub to_others : List (List ℕ)

abbrev pub names_of : EventNames → Names
names_of given = record { sent = given.sent.items; answered = given.answered.items; to_others = given.to_others.items }
