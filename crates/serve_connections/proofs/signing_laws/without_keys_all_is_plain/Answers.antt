use Rattle.std.proofs.Common.{refl}
use Rattle.serve_connections.specs.Turning.{around}
use Rattle.serve_connections.proofs.PlainLemmas.{all_answer_plainly, all_deal_plainly, newcomers_plain}
use Rattle.serve_connections.proofs.signing_laws.without_keys_all_is_plain.Goals as goal

pub returns-clause-newcomers : goal.returns-clause-newcomers
returns-clause-newcomers g c = newcomers_plain g.S.CarriesToken.carried

pub returns-clause-goes_on : goal.returns-clause-goes_on
returns-clause-goes_on g c = λ held. refl

pub returns-clause-answers : goal.returns-clause-answers
returns-clause-answers g c =
    λ hooks. all_answer_plainly (around g.S.Read.remaining g.S.Write.contents g.P.Port.step g.H.PresenceHooks hooks) c.plain_changes_nothing.ensures

pub returns-clause-deals : goal.returns-clause-deals
returns-clause-deals g c =
    λ hooks. all_deal_plainly (around g.S.Read.remaining g.S.Write.contents g.P.Port.step g.H.PresenceHooks hooks) c.plain_changes_nothing.ensures
