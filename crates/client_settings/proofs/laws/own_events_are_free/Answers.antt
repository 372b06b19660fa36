use Rattle.client_settings.proofs.Unjoined.{own_events_free}
use Rattle.client_settings.proofs.laws.own_events_are_free.Goals as goal

pub returns : goal.returns
returns c = own_events_free
