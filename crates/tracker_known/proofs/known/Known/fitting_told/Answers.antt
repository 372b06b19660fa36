use Rattle.std.proofs.lemmas.Result.{IfOk-weaker}
use Rattle.orswot_core.specs.Full.{IsFullIn}
use Rattle.orswot_core.specs.Checks.{WhereItFits}
use Rattle.orswot_core.proofs.FitFacts.{fits_still}
use Rattle.presence_journal.specs.History.{History}
use Rattle.presence_journal_known.specs.Full.{IsFullOf}
use Rattle.tracker_known.specs.Known.{IsKnownOf}
use Rattle.tracker_known.proofs.KnownLemmas.{full_of}
use Rattle.tracker_known.proofs.known.Known.fitting_told.Goals as goal

pub returns : goal.returns
returns c =
    let form = c.args.form in
    let k = c.args.self.now in
    IfOk-weaker c.fitting_told.result (WhereItFits form (IsFullIn form k.set)) (λ o. (h : History) → IsKnownOf h k → WhereItFits form (IsFullOf form h) o)
    (λ o fits h known. fits_still form (IsFullIn form k.set) (IsFullOf form h) (λ t full. full_of form h k t full known) o fits) c.fitting_told.ensures
