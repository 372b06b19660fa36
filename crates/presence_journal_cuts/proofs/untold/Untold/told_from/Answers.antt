use Rattle.std.proofs.Common.{Some, None, sym, ◌∙◌, ap}
use Rattle.std.specs.Prelude.{option_copied, option_map}
use Rattle.orswot_core.specs.Telling.{ToldValue}
use Rattle.delta_range.specs.Deltas.{telling_in}
use Rattle.presence_journal_cuts.proofs.UntoldLemmas.{kept_from}
use Rattle.presence_journal_cuts.proofs.untold.Untold.told_from.Goals as goal

pub returns-in_default : goal.returns-in_default
returns-in_default c =
    let u = c.args.self.now in
    kept_from c.args.form u c.args.count None (ap (option_map (telling_in c.args.form)) (ap option_copied (sym c.in_default.is) ∙ c.from_count.ensures))

pub returns : goal.returns
returns c =
    let u = c.args.self.now in
    kept_from c.args.form u c.args.count (Some c.in_ok-told.told)
    (ap (λ (t : ToldValue). Some t) c.in_ok-told.ensures ∙ ap (option_map (telling_in c.args.form)) (ap option_copied (sym c.in-Some.is) ∙ c.from_count.ensures))
