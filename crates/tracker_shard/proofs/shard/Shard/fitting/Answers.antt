use Rattle.std.proofs.Common.{IfOk, sym, subst}
use Rattle.orswot_core.specs.Checks.{WhereItFits}
use Rattle.presence_journal_cuts.specs.KeptDeltas.{TellsFrom}
use Rattle.presence_journal_known.specs.Full.{IsFullOf}
use Rattle.tracker_shard.proofs.shard.Shard.fitting.Goals as goal

pub returns-in-None-clause-told : goal.returns-in-None-clause-told
returns-in-None-clause-told c =
    let form = c.args.form in
    subst (λ o. IfOk c.fitting_full.result (WhereItFits form (TellsFrom form c.args.self.now o))) (sym c.in-None.is)
    (subst (λ h. IfOk c.fitting_full.result (WhereItFits form (IsFullOf form h))) c.self.view_is c.fitting_full.ensures)
