use Rattle.channel_rules.specs.Said.{Worded}
use Rattle.serve_connections.proofs.SigningLemmas.{all_shown, newcomers_shown}
use Rattle.serve_connections.proofs.signing_laws.grants_are_shown.Goals as goal

pub returns-clause-newcomers : goal.returns-clause-newcomers
returns-clause-newcomers g c = newcomers_shown g.S.CarriesToken.carried

pub returns-clause-texts : goal.returns-clause-texts
returns-clause-texts g c =
    λ hooks pid. all_shown (Worded (g.H.PresenceHooks.fetched hooks) (g.H.PresenceHooks.plain hooks)) (g.P.Port.step pid)
